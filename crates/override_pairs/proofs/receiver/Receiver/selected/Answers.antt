-- Answers of `Receiver::selected`: what its calls ask for, and what it promises.
use Rattle.std.proofs.Common.{◌∙◌, sym, subst, ap}
use Rattle.class_pool.specs.Found.{IsMember, IsMethod}
use Rattle.class_pool.specs.Selection.{selected}
use Rattle.class_pool.specs.declared.id.ClassId.TheVariants.{Prog}
use Rattle.link_check.proofs.Methods.{instance_is_method}
use Rattle.method_places.specs.bodies.Alike.{member_at}
use Rattle.method_places.proofs.InstanceRows.{instance_there, listed_row}
use Rattle.override_pairs.proofs.receiver.Receiver.selected.Goals as goal

pub select-requires-clause-there : goal.select-requires-clause-there
select-requires-clause-there c =
    let set = c.args.self.now.numbered.now.set.now in
    subst (IsMember set) (sym c.member_of.ensures)
    (instance_there set c.args.row.now.class c.args.row.now.index
    (listed_row set c.args.self.now.table.now c.requires.receiver.rows c.args.above c.args.row.now c.requires.above
    c.requires.row).instance)

pub select-requires-clause-method : goal.select-requires-clause-method
select-requires-clause-method c =
    let set = c.args.self.now.numbered.now.set.now in
    subst (IsMethod set) (sym c.member_of.ensures)
    (instance_is_method set (member_at c.args.row.now)
    (listed_row set c.args.self.now.table.now c.requires.receiver.rows c.args.above c.args.row.now c.requires.above
    c.requires.row).instance)

pub returns-clause-is : goal.returns-clause-is
returns-clause-is c =
    let self = c.args.self.now in
    c.select.ensures.is ∙ ap (selected self.numbered.now.set.now (Prog self.class)) c.member_of.ensures
