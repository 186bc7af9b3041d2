use Rattle.std.proofs.Common.{◌≡◌, drop}
use Rattle.jvm_model.specs.Local.{handler_for}
use Rattle.run_heap.proofs.handlers.handler_for.Given as goal

abbrev pub invariant-loop-handler : goal.invariant-loop-handler
invariant-loop-handler g l = handler_for ((g.S.Shapes.shape l.shapes).is_sub l.class) l.at l.handlers
    ≡ handler_for ((g.S.Shapes.shape l.shapes).is_sub l.class) l.at (drop l.handler-index l.handlers)
