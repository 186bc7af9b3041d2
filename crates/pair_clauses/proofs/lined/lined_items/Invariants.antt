use Rattle.std.proofs.Common.{◌≡◌, take}
use Rattle.pair_clauses.specs.Closing.{lined_items}
use Rattle.pair_clauses.proofs.lined.lined_items.Given as goal

abbrev pub invariant-loop-names : goal.invariant-loop-names
invariant-loop-names l = l.lined ≡ lined_items (take l.names-index l.given)
