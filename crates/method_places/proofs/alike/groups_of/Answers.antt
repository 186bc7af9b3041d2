-- Answers of `groups_of`: what its calls ask for, and what it promises.
use Rattle.method_places.proofs.Grouping.{class_grouped}
use Rattle.method_places.proofs.alike.groups_of.Goals as goal

pub loop-number-preserved : goal.loop-number-preserved
loop-number-preserved c =
    class_grouped c.args.set.now c.args.keys.now c.loop-number.groups.items c.add_class.new.groups.items
    c.loop-number.number c.class-class.result.now c.class-class.ensures.is c.loop-number.invariant
    c.add_class.ensures.before c.add_class.ensures.added
