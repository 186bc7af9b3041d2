-- Answers of `select_for`: what its calls ask for, and what it promises.
use Rattle.link_check.proofs.Alone.{selected_named}
use Rattle.link_check.proofs.references.running.select_for.Goals as goal

pub returns-then-is_method-clause-named : goal.returns-then-is_method-clause-named
returns-then-is_method-clause-named c =
    selected_named c.args.set.now c.args.m (c.args.r.now.name, c.args.r.now.ty) c.select.result c.args.class
    c.requires.named c.select.ensures.is

pub returns-else-is_method-clause-named : goal.returns-else-is_method-clause-named
returns-else-is_method-clause-named c =
    selected_named c.args.set.now c.args.m (c.args.r.now.name, c.args.r.now.ty) c.select_field.result c.args.class
    c.requires.named c.select_field.ensures.is
