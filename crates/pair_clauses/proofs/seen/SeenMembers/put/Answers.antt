-- Answers of `SeenMembers::put`: what its calls ask for, and what it promises.
use Rattle.new_names.specs.NewNames.{is_same}
use Rattle.new_names.proofs.Inserted.{same_Decides}
use Rattle.pair_clauses.proofs.SeenLaw.{is_new_among, seen_more}
use Rattle.pair_clauses.proofs.seen.SeenMembers.put.Goals as goal

pub returns-clause-is_new : goal.returns-clause-is_new
returns-clause-is_new c = λ members has. is_new_among is_same c.insert.result c.args.self.now.members members
    (c.args.name.now, c.args.ty.now) (c.in_ok-clone.field-0, c.in_ok-clone-2.field-0) c.insert.ensures.is_new
    (λ i. (c.in_ok-clone.ensures.cases i, c.in_ok-clone-2.ensures.cases i)) has

pub returns-clause-put : goal.returns-clause-put
returns-clause-put c = λ members has. seen_more is_same same_Decides c.insert.result c.args.self.now.members
    c.insert.new.self members (c.args.name.now, c.args.ty.now) (c.in_ok-clone.field-0, c.in_ok-clone-2.field-0)
    c.insert.ensures.keys (λ i. (c.in_ok-clone.ensures.cases i, c.in_ok-clone-2.ensures.cases i)) has
