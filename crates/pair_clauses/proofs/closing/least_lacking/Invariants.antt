use Rattle.std.proofs.Common.{◌≡◌, drop, fold, not}
use Rattle.std.specs.List.{filter}
use Rattle.pair_clauses.specs.Closing.{has_line, lesser}
use Rattle.pair_clauses.proofs.closing.least_lacking.Given as goal

abbrev pub invariant-loop-item : goal.invariant-loop-item
invariant-loop-item l = fold lesser l.least (filter (λ x. not (has_line l.lined x)) (drop l.item-index l.items))
    ≡ fold lesser l.fn.before (filter (λ x. not (has_line l.lined x)) l.items)
