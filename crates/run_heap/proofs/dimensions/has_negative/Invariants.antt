use Rattle.std.proofs.Common.{◌≡◌, drop, pos}
use Rattle.std.specs.List.{list_any}
use Rattle.std.specs.Prelude.{int_lt}
use Rattle.run_heap.proofs.dimensions.has_negative.Given as goal

abbrev pub invariant-loop-size : goal.invariant-loop-size
invariant-loop-size l = list_any (λ z. int_lt z (pos 0)) l.sizes
    ≡ list_any (λ z. int_lt z (pos 0)) (drop l.size-index l.sizes)
