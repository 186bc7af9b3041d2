-- Answers of `want_names`: what its calls ask for, and what it promises.
use Rattle.require_sys.specs.Requires.{name_wants}
use Rattle.item_numbers.proofs.Gathering.{more_wanted}
use Rattle.item_needs.proofs.named.want_names.Goals as goal

pub loop-name-preserved : goal.loop-name-preserved
loop-name-preserved c =
    more_wanted (λ cs. name_wants cs) c.args.names.now c.loop-name.name-index c.name-item.result _ c.loop-name.wants _
    c.loop-name-test.true c.name-item.is c.loop-name.invariant c.in_ok-want_name.ensures
