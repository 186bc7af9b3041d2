use Rattle.std.proofs.Common.{◌≡◌, drop}
use Rattle.std.specs.List.{flat_map}
use Rattle.indexmap.specs.IndexSet.{insert_all}
use Rattle.class_model.specs.CanonicalPool.{same}
use Rattle.class_model.specs.CanonicalPool.{class_constants}
use Rattle.class_write.proofs.pool.add_classes.Given as goal

abbrev pub invariant-loop-name : goal.invariant-loop-name
invariant-loop-name l = insert_all same l.pool (flat_map class_constants (drop l.name-index l.names))
    ≡ insert_all same l.initial.pool (flat_map class_constants l.names)
