use Rattle.std.proofs.Common.{◌≡◌, take}
use Rattle.std.specs.List.{flat_map}
use Rattle.require_sys.specs.Requires.{type_wants}
use Rattle.item_numbers.specs.bodies.Wanting.{wanting}
use Rattle.item_needs.proofs.named.want_types.Given as goal

abbrev pub invariant-loop-ty : goal.invariant-loop-ty
invariant-loop-ty l = l.wants ≡ wanting l.fn.wants (flat_map (type_wants l.fn.wants.classes) (take l.ty-index l.types))
