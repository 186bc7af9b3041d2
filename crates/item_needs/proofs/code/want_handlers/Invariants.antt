use Rattle.std.proofs.Common.{◌≡◌, take}
use Rattle.std.specs.List.{flat_map}
use Rattle.require_sys.specs.Requires.{handler_wants}
use Rattle.item_numbers.specs.bodies.Wanting.{wanting}
use Rattle.item_needs.proofs.code.want_handlers.Given as goal

abbrev pub invariant-loop-handler : goal.invariant-loop-handler
invariant-loop-handler l = l.wants ≡ wanting l.fn.wants (flat_map (handler_wants l.fn.wants.classes)
    (take l.handler-index l.handlers))
