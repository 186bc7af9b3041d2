use Rattle.std.proofs.Common.{◌≡◌, ◌++◌, take}
use Rattle.std.specs.List.{filter_map}
use Rattle.item_numbers.specs.bodies.Supers.{other_number}
use Rattle.item_numbers.proofs.supers.push_others.Given as goal

abbrev pub invariant-loop-id : goal.invariant-loop-id
invariant-loop-id l =
    l.numbers.items ≡ l.fn.numbers.items ++ filter_map (other_number l.own) (take l.id-index l.ids)
