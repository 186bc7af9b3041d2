use Rattle.std.proofs.Common.{◌≡◌, take}
use Rattle.std.specs.List.{flat_map}
use Rattle.item_numbers.specs.bodies.Selecting.{called_by}
use Rattle.item_numbers.specs.bodies.Wanting.{wanting}
use Rattle.item_needs.proofs.classes.want_called_by.Given as goal

abbrev pub invariant-loop-id : goal.invariant-loop-id
invariant-loop-id l = l.wants ≡ wanting l.fn.wants (flat_map (called_by l.fn.wants.classes l.number)
    (take l.id-index l.ids))
