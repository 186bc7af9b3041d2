use Rattle.std.proofs.Common.{◌≡◌, ◌++◌, drop}
use Rattle.code_edit.specs.Rewriting.{map_from}
use Rattle.edit_tables.specs.Unskipped.{is_unskipped}
use Rattle.edit_tables.proofs.skipping.unskipped.Given as goal

abbrev pub invariant-loop-ins : goal.invariant-loop-ins
invariant-loop-ins l =
    (l.lives.items ++ map_from (is_unskipped l.skips) l.at (drop l.ins-index l.code.ins)
    ≡ map_from (is_unskipped l.skips) 0 l.code.ins)
    × (l.at ≡ l.ins-index)
