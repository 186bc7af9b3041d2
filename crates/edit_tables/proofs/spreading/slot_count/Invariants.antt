use Rattle.std.proofs.Common.{◌≡◌, drop, max}
use Rattle.edit_tables.specs.Loads.{slot_count}
use Rattle.edit_tables.proofs.spreading.slot_count.Given as goal

abbrev pub invariant-loop-ins : goal.invariant-loop-ins
invariant-loop-ins l = max l.count (slot_count (drop l.ins-index l.fn.ins)) ≡ slot_count l.fn.ins
