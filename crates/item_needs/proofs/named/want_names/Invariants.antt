use Rattle.std.proofs.Common.{◌≡◌, take}
use Rattle.std.specs.List.{flat_map}
use Rattle.require_sys.specs.Requires.{name_wants}
use Rattle.item_numbers.specs.bodies.Wanting.{wanting}
use Rattle.item_needs.proofs.named.want_names.Given as goal

abbrev pub invariant-loop-name : goal.invariant-loop-name
invariant-loop-name l = l.wants ≡ wanting l.fn.wants (flat_map (name_wants l.fn.wants.classes)
    (take l.name-index l.names))
