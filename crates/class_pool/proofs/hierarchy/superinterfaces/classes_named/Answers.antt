-- Answers of `classes_named`: what its calls ask for, and what it promises.
use Rattle.class_pool.proofs.FillingLaws.{named_put}
use Rattle.class_pool.proofs.hierarchy.superinterfaces.classes_named.Goals as goal

pub loop-name-preserved : goal.loop-name-preserved
loop-name-preserved c =
    named_put c.args.classes.now c.args.names.now c.loop-name.name-index c.name-item.result c.loop-name.ids
    c.push_named.new.ids c.loop-name-test.true c.name-item.is c.loop-name.invariant c.in_ok-push_named.ensures
