-- Answers of `counts_of`: what its calls ask for, and what it promises.
use Rattle.std.proofs.Common.{arith}
use Rattle.set_shrink.proofs.Members.{fields_few, methods_few}
use Rattle.set_shrink.proofs.counts.counts_of.Goals as goal

pub overflow_add-fields : goal.overflow_add-fields
overflow_add-fields c =
    let few = fields_few c.args.classes.now c.loop-class.class-index c.class-item.result c.loop-class-test.true
    c.class-item.is in
    omega (arith, few, c.loop-class.invariant.fields, c.len-fields.ensures, c.requires.few)

pub overflow_add-methods : goal.overflow_add-methods
overflow_add-methods c =
    let few = methods_few c.args.classes.now c.loop-class.class-index c.class-item.result c.loop-class-test.true
    c.class-item.is in
    omega (arith, few, c.loop-class.invariant.methods, c.len-methods.ensures, c.requires.few)
