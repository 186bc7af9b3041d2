-- Answers of `want_handlers`: what its calls ask for, and what it promises.
use Rattle.require_sys.specs.Requires.{handler_wants}
use Rattle.item_numbers.proofs.Gathering.{more_wanted}
use Rattle.item_needs.proofs.code.want_handlers.Goals as goal

pub loop-handler-preserved : goal.loop-handler-preserved
loop-handler-preserved c =
    more_wanted (λ cs. handler_wants cs) c.args.handlers.now c.loop-handler.handler-index c.handler-item.result _
    c.loop-handler.wants _
    c.loop-handler-test.true c.handler-item.is c.loop-handler.invariant c.in_ok-want_handler.ensures
