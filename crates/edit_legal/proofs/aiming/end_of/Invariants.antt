use Rattle.std.proofs.Common.{◌≡◌, drop}
use Rattle.edit_legal.specs.Movable.{end_from}
use Rattle.edit_legal.proofs.aiming.end_of.Given as goal

abbrev pub invariant-loop-mark : goal.invariant-loop-mark
invariant-loop-mark l =
    (end_from l.end l.at (drop l.mark-index l.marks) ≡ end_from 0 0 l.marks)
    × (l.at ≡ l.mark-index)
