use Rattle.std.proofs.Common.{◌≡◌, take}
use Rattle.std.specs.List.{flat_map}
use Rattle.link_check.specs.Profile.{least, handler_kinds}
use Rattle.link_check.proofs.rules.instructions.handlers_kind.Given as goal

abbrev pub invariant-loop-handler : goal.invariant-loop-handler
invariant-loop-handler l = l.kind ≡ least (flat_map (handler_kinds l.set l.number) (take l.handler-index l.handlers))
