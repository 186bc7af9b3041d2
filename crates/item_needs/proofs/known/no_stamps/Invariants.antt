use Rattle.std.proofs.Common.{All, ◌≤◌}
use Rattle.item_needs.proofs.known.no_stamps.Given as goal

abbrev pub invariant-loop : goal.invariant-loop
invariant-loop l = All (λ stamp. stamp ≤ 0) l.stamps.items
