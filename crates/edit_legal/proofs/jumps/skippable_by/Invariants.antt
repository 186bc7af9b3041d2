use Rattle.std.proofs.Common.{◌≡◌, ◌++◌, drop}
use Rattle.code_edit.specs.Rewriting.{map_from}
use Rattle.edit_legal.specs.Movable.{is_skippable}
use Rattle.edit_legal.proofs.jumps.skippable_by.Given as goal

abbrev pub invariant-loop-ins : goal.invariant-loop-ins
invariant-loop-ins l =
    (l.marks.items
    ++ map_from (is_skippable l.aims l.end l.aimed.items) l.at (drop l.ins-index l.code.ins)
    ≡ map_from (is_skippable l.aims l.end l.aimed.items) 0 l.code.ins)
    × (l.at ≡ l.ins-index)
