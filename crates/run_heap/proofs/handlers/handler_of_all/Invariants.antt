use Rattle.std.proofs.Common.{◌≡◌, drop, false}
use Rattle.jvm_model.specs.Local.{handler_for}
use Rattle.run_heap.proofs.handlers.handler_of_all.Given as goal

abbrev pub invariant-loop-handler : goal.invariant-loop-handler
invariant-loop-handler l = handler_for (λ class. false) l.at l.handlers
    ≡ handler_for (λ class. false) l.at (drop l.handler-index l.handlers)
