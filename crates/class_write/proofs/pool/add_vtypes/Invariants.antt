use Rattle.std.proofs.Common.{◌≡◌, drop}
use Rattle.std.specs.List.{flat_map}
use Rattle.indexmap.specs.IndexSet.{insert_all}
use Rattle.class_model.specs.CanonicalPool.{same}
use Rattle.class_model.specs.CanonicalFrames.{type_constants}
use Rattle.class_write.proofs.pool.add_vtypes.Given as goal

abbrev pub invariant-loop-ty : goal.invariant-loop-ty
invariant-loop-ty l = insert_all same l.pool (flat_map type_constants (drop l.ty-index l.types))
    ≡ insert_all same l.initial.pool (flat_map type_constants l.types)
