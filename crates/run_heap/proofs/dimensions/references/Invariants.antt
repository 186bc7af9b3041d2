use Rattle.std.proofs.Common.{◌≡◌}
use Rattle.jvm_model.specs.Arrays.{references_from}
use Rattle.run_heap.proofs.dimensions.references.Given as goal

abbrev pub invariant-loop-index : goal.invariant-loop-index
invariant-loop-index l = l.values.items ≡ references_from l.first l.index
