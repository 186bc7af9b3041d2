use Rattle.std.proofs.Common.{◌≡◌, drop}
use Rattle.edit_tables.specs.Spread.{spread}
use Rattle.pass_const.specs.Taking.{takes_from}
use Rattle.pass_const.proofs.slots.mark_chosen.Given as goal

abbrev pub invariant-loop-ins : goal.invariant-loop-ins
invariant-loop-ins l =
    (spread (takes_from l.code) l.chosen l.at (drop l.ins-index l.code.ins) l.marks.items
    ≡ spread (takes_from l.code) l.chosen 0 l.code.ins l.fn.marks.items)
    × (l.at ≡ l.ins-index)
