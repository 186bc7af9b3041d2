use Rattle.std.proofs.Common.{◌≡◌, [], drop}
use Rattle.edit_tables.specs.Loads.{loaded_by}
use Rattle.edit_tables.specs.Spread.{spread}
use Rattle.edit_tables.proofs.spreading.mark_loads.Given as goal

abbrev pub invariant-loop-ins : goal.invariant-loop-ins
invariant-loop-ins l =
    (spread loaded_by [] l.at (drop l.ins-index l.fn.ins) l.marks.items
    ≡ spread loaded_by [] 0 l.fn.ins l.fn.marks.items)
    × (l.at ≡ l.ins-index)
