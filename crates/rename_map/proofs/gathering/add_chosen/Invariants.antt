use Rattle.std.proofs.Common.{◌≡◌, ◌+◌, flat_map, take}
use Rattle.member_shrink.specs.Shrunk.{chosen}
use Rattle.jv_base.specs.Names.{is_text}
use Rattle.rename_map.specs.bodies.Adding.{Adds}
use Rattle.rename_map.proofs.gathering.add_chosen.Given as goal

abbrev pub invariant-loop-member : goal.invariant-loop-member
invariant-loop-member g l = (l.item ≡ l.first + l.member-index)
    × Adds is_text l.fn.names (flat_map (g.T.Tells.tells l.told) (chosen l.row l.first (take l.member-index l.members)))
    l.names
