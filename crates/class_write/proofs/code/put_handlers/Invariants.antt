use Rattle.std.proofs.Common.{◌≡◌, ◌++◌, map, take}
use Rattle.std.specs.List.{flat_map}
use Rattle.class_model.specs.Structure.{exception_info}
use Rattle.class_model.specs.CanonicalClass.{handler_raw}
use Rattle.class_write.proofs.code.put_handlers.Given as goal

abbrev pub invariant-loop-handler : goal.invariant-loop-handler
invariant-loop-handler l = l.out.items
    ≡ l.initial.out.items ++ flat_map exception_info
    (map (handler_raw l.pool l.places) (take l.handler-index l.handlers))
