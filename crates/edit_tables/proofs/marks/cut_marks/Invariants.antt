use Rattle.std.proofs.Common.{◌≡◌, drop}
use Rattle.edit_tables.specs.Marks.{none, with_cuts}
use Rattle.edit_tables.proofs.marks.cut_marks.Given as goal

abbrev pub invariant-loop-act : goal.invariant-loop-act
invariant-loop-act l =
    with_cuts (drop l.act-index l.acts) l.marks.items ≡ with_cuts l.acts (none l.fn.count)
