use Rattle.std.proofs.Common.{◌≡◌, drop}
use Rattle.indexmap.specs.IndexSet.{insert_all}
use Rattle.class_model.specs.CanonicalPool.{same}
use Rattle.class_model.specs.CanonicalClass.{class_pushes}
use Rattle.class_write.proofs.pool.add_pushes.Given as goal

abbrev pub invariant-loop-method : goal.invariant-loop-method
invariant-loop-method l = insert_all same l.pool (class_pushes (drop l.method-index l.methods))
    ≡ insert_all same l.initial.pool (class_pushes l.methods)
