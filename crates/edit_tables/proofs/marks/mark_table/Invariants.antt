use Rattle.std.proofs.Common.{◌≡◌, drop}
use Rattle.edit_tables.specs.Marks.{marked}
use Rattle.edit_tables.proofs.marks.mark_table.Given as goal

abbrev pub invariant-loop-case : goal.invariant-loop-case
invariant-loop-case l =
    marked (drop l.case-index l.cases) l.marks.items ≡ marked l.cases l.fn.marks.items
