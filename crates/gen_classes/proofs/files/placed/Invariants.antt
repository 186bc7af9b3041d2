use Rattle.std.proofs.Common.{◌≡◌, ◌≤◌}
use Rattle.gen_classes.proofs.Placing.{placed_below}
use Rattle.gen_classes.proofs.files.placed.Given as goal

abbrev pub invariant-loop-number : goal.invariant-loop-number
invariant-loop-number l = (l.number ≤ l.n) × (l.made.entries ≡ placed_below l.n l.number)
