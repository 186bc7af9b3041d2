use Rattle.std.proofs.Common.{◌≡◌, ◌++◌, ◌+◌, drop}
use Rattle.code_edit.specs.Rewriting.{map_from}
use Rattle.edit_check.specs.Tables.{target_to}
use Rattle.edit_check.proofs.moving.moved_table.Given as goal

abbrev pub invariant-loop-case : goal.invariant-loop-case
invariant-loop-case l =
    (l.moved ++ map_from (target_to l.aims l.places l.at) l.which (drop l.case-index l.cases)
    ≡ map_from (target_to l.aims l.places l.at) 1 l.cases)
    × (l.which ≡ l.case-index + 1)
