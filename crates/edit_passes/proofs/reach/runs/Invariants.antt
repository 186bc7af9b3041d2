use Rattle.std.proofs.Common.{◌≡◌, ◌++◌, None, drop}
use Rattle.code_edit.specs.Passes.{runs}
use Rattle.edit_passes.proofs.reach.runs.Given as goal

abbrev pub invariant-loop-mark : goal.invariant-loop-mark
invariant-loop-mark l =
    (l.acts ++ runs l.at l.began (drop l.mark-index l.marks) ≡ runs 0 None l.marks)
    × (l.at ≡ l.mark-index)
