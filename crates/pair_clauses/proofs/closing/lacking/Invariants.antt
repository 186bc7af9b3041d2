use Rattle.std.proofs.Common.{◌≡◌}
use Rattle.std.specs.List.{flat_map}
use Rattle.pair_clauses.specs.Closing.{lacking, needed_together}
use Rattle.pair_clauses.proofs.Needed.{least_of, needed_from}
use Rattle.pair_clauses.proofs.closing.lacking.Given as goal

abbrev pub invariant-loop-item : goal.invariant-loop-item
invariant-loop-item l =
    least_of l.lined l.least (needed_from l.lined l.sys.needs (flat_map (needed_together l.lined) l.sys.pairs) l.item)
    ≡ lacking l.sys l.lined
