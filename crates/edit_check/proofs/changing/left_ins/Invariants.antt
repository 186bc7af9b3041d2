use Rattle.std.proofs.Common.{◌≡◌, ◌++◌, drop}
use Rattle.edit_check.specs.Tables.{left_ins}
use Rattle.edit_check.proofs.changing.left_ins.Given as goal

abbrev pub invariant-loop-ins : goal.invariant-loop-ins
invariant-loop-ins l =
    (l.left ++ left_ins l.tables l.places l.at (drop l.ins-index l.fn.ins)
    ≡ left_ins l.tables l.places 0 l.fn.ins)
    × (l.at ≡ l.ins-index)
