use Rattle.std.proofs.Common.{◌≡◌, drop}
use Rattle.std.specs.List.{flat_map}
use Rattle.indexmap.specs.IndexSet.{insert_all}
use Rattle.class_model.specs.CanonicalPool.{same}
use Rattle.class_model.specs.CanonicalClass.{method_constants}
use Rattle.class_write.proofs.pool.add_methods.Given as goal

abbrev pub invariant-loop-method : goal.invariant-loop-method
invariant-loop-method l = insert_all same l.pool (flat_map (method_constants l.class) (drop l.method-index l.methods))
    ≡ insert_all same l.initial.pool (flat_map (method_constants l.class) l.methods)
