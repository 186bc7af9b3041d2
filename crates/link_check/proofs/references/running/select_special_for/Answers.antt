-- Answers of `select_special_for`: what its calls ask for, and what it promises.
use Rattle.std.proofs.Common.{Some}
use Rattle.class_pool.specs.Walk.{superclasses_up}
use Rattle.link_check.proofs.Alone.{instance_named}
use Rattle.link_check.proofs.references.running.select_special_for.Goals as goal

pub returns-then-is_same_class-clause-named : goal.returns-then-is_same_class-clause-named
returns-then-is_same_class-clause-named c =
    instance_named c.args.set.now (c.args.r.now.name, c.args.r.now.ty)
    (superclasses_up c.args.set.now (Some c.args.from)) c.first_instance_up.result c.first_instance_up.ensures.is

pub returns-else-is_same_class-clause-named : goal.returns-else-is_same_class-clause-named
returns-else-is_same_class-clause-named c =
    instance_named c.args.set.now (c.args.r.now.name, c.args.r.now.ty)
    (superclasses_up c.args.set.now c.super_of.result) c.first_instance_up-else-is_same_class.result
    c.first_instance_up-else-is_same_class.ensures.is
