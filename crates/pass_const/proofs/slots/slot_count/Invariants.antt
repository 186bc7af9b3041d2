use Rattle.std.proofs.Common.{◌≡◌, ◌≤◌, drop, max}
use Rattle.edit_tables.specs.Loads.{slot_count}
use Rattle.pass_const.proofs.slots.slot_count.Given as goal

abbrev pub invariant-loop-ins : goal.invariant-loop-ins
invariant-loop-ins l =
    (max (slot_count (drop l.ins-index l.ins)) l.count ≡ slot_count l.ins) × (l.count ≤ 65536)
