-- Answers of `want_called_by`: what its calls ask for, and what it promises.
use Rattle.class_pool.specs.declared.id.ClassId.{ClassId}
use Rattle.item_numbers.specs.bodies.Selecting.{called_by}
use Rattle.item_numbers.proofs.Gathering.{more_wanted}
use Rattle.item_needs.proofs.classes.want_called_by.Goals as goal

pub loop-id-preserved : goal.loop-id-preserved
loop-id-preserved c =
    more_wanted (λ cs (x : ClassId). called_by cs c.args.number x) c.args.ids.now c.loop-id.id-index c.id-item.result
    c.args.wants.now c.loop-id.wants _ c.loop-id-test.true c.id-item.is c.loop-id.invariant
    c.in_ok-want_called_of.ensures
