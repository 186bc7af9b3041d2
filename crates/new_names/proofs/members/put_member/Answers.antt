-- Answers of `put_member`: what its calls ask for, and what it promises.
use Rattle.new_names.specs.NewNames.{is_same}
use Rattle.new_names.proofs.Inserted.{put_found, same_Decides}
use Rattle.new_names.proofs.members.put_member.Goals as goal

pub returns : goal.returns
returns c = put_found is_same same_Decides c.insert.result c.args.table.now c.insert.new.self
    (c.args.old.now, c.args.ty) (c.in_ok-clone.field-0, c.args.ty) c.args.new.now c.in_ok-clone-2.field-0
    c.insert.ensures (λ i. (c.in_ok-clone.ensures.cases i, c.args.ty))
    c.in_ok-clone-2.ensures.cases
