use Rattle.std.proofs.Common.{◌≡◌, drop}
use Rattle.std.specs.List.{flat_map}
use Rattle.indexmap.specs.IndexSet.{insert_all}
use Rattle.class_model.specs.CanonicalPool.{same}
use Rattle.class_model.specs.declared.code.Ins.{Ins}
use Rattle.class_model.specs.CanonicalCode.{pushed_constants}
use Rattle.class_write.proofs.pool.add_pushes_of_code.Given as goal

abbrev pub invariant-loop-instruction : goal.invariant-loop-instruction
invariant-loop-instruction l = insert_all same l.pool
    (flat_map (λ (i : Ins). pushed_constants i.op) (drop l.instruction-index l.ins))
    ≡ insert_all same l.initial.pool (flat_map (λ (i : Ins). pushed_constants i.op) l.ins)
