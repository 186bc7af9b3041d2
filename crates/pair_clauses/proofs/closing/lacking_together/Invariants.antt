use Rattle.std.proofs.Common.{◌≡◌, drop, fold, not}
use Rattle.std.specs.List.{filter, flat_map}
use Rattle.pair_clauses.specs.Closing.{has_line, lesser, needed_together}
use Rattle.pair_clauses.proofs.closing.lacking_together.Given as goal

abbrev pub invariant-loop-pair : goal.invariant-loop-pair
invariant-loop-pair l =
    fold lesser l.least
    (filter (λ x. not (has_line l.lined x)) (flat_map (needed_together l.lined) (drop l.pair-index l.pairs)))
    ≡ fold lesser l.fn.before (filter (λ x. not (has_line l.lined x)) (flat_map (needed_together l.lined) l.pairs))
