use Rattle.std.proofs.Common.{◌≡◌, ◌++◌, take}
use Rattle.std.specs.List.{filter_map, flat_map}
use Rattle.item_numbers.specs.bodies.Supers.{other_number, own_once}
use Rattle.item_numbers.proofs.supers.push_interfaces.Given as goal

abbrev pub invariant-loop-class : goal.invariant-loop-class
invariant-loop-class l = l.numbers.items
    ≡ l.fn.numbers.items ++ filter_map (other_number l.own) (flat_map (own_once l.set) (take l.class-index l.chain))
