use Rattle.std.proofs.Common.{◌≡◌, [], drop}
use Rattle.edit_legal.specs.Cuttable.{added_by}
use Rattle.edit_tables.specs.Spread.{spread}
use Rattle.edit_legal.proofs.cuts.mark_additions.Given as goal

abbrev pub invariant-loop-ins : goal.invariant-loop-ins
invariant-loop-ins l =
    (spread (added_by l.cuts) [] l.at (drop l.ins-index l.fn.ins) l.marks.items
    ≡ spread (added_by l.cuts) [] 0 l.fn.ins l.fn.marks.items)
    × (l.at ≡ l.ins-index)
