use Rattle.std.proofs.Common.{◌≡◌}
use Rattle.pass_const.specs.Known.{KnowsSlots}
use Rattle.pass_const.proofs.known.known_slots.Given as goal

abbrev pub invariant-loop-is_asked : goal.invariant-loop-is_asked
invariant-loop-is_asked l =
    KnowsSlots l.code l.asked l.slot l.lists.items × (l.slot ≡ l.is_asked-index)
