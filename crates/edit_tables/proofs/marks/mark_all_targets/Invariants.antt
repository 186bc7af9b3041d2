use Rattle.std.proofs.Common.{◌≡◌, drop}
use Rattle.edit_tables.specs.Marks.{with_targets}
use Rattle.edit_tables.proofs.marks.mark_all_targets.Given as goal

abbrev pub invariant-loop-ins : goal.invariant-loop-ins
invariant-loop-ins l =
    with_targets (drop l.ins-index l.fn.ins) l.marks.items ≡ with_targets l.fn.ins l.fn.marks.items
