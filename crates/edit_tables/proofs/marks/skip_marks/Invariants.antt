use Rattle.std.proofs.Common.{◌≡◌, drop}
use Rattle.edit_tables.specs.Marks.{none, with_skips}
use Rattle.edit_tables.proofs.marks.skip_marks.Given as goal

abbrev pub invariant-loop-act : goal.invariant-loop-act
invariant-loop-act l =
    with_skips (drop l.act-index l.acts) l.marks.items ≡ with_skips l.acts (none l.fn.count)
