use Rattle.std.proofs.Common.{◌≡◌, ◌+◌, drop}
use Rattle.code_edit.specs.Rewriting.{map_from}
use Rattle.edit_tables.specs.Aimed.{aimed}
use Rattle.edit_tables.specs.Marks.{marked}
use Rattle.edit_legal.proofs.aiming.mark_table.Given as goal

abbrev pub invariant-loop-case : goal.invariant-loop-case
invariant-loop-case l =
    (marked (map_from (aimed l.aims l.at) l.which (drop l.case-index l.cases)) l.marks.items
    ≡ marked (map_from (aimed l.aims l.at) 1 l.cases) l.fn.marks.items)
    × (l.which ≡ l.case-index + 1)
