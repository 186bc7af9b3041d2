use Rattle.std.proofs.Common.{◌≡◌, replicate}
use Rattle.jvm_model.specs.Types.{default_of}
use Rattle.run_heap.proofs.arrays.default_values.Given as goal

abbrev pub invariant-loop : goal.invariant-loop
invariant-loop l = l.values.items ≡ replicate l.counter (default_of l.kind)
