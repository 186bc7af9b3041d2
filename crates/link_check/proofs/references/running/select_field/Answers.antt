-- Answers of `select_field`: what its calls ask for, and what it promises.
use Rattle.std.proofs.Common.{sym, ◌∙◌}
use Rattle.link_check.proofs.Alone.{field_selected}
use Rattle.link_check.proofs.references.running.select_field.Goals as goal

pub returns-else-is_interface-clause-is : goal.returns-else-is_interface-clause-is
returns-else-is_interface-clause-is c =
    field_selected c.args.set.now c.args.class.now c.args.m.now (c.args.r.now.name, c.args.r.now.ty)
    c.first_same.result c.requires.field c.requires.named (sym c.is_interface.ensures ∙ c.if-is_interface.false)
    c.first_same.ensures.is
