-- Answers of `field_of`: what its calls ask for, and what it promises.
use Rattle.std.proofs.Common.{◌≡◌, Option, IfSome, sym, subst}
use Rattle.class_pool.specs.Found.{named_at}
use Rattle.class_pool.specs.declared.id.MemberAt.{MemberAt}
use Rattle.link_check.proofs.Meaning.{field_found_named}
use Rattle.set_meanings.proofs.fields.field_of.Goals as goal

pub returns-in-Some-clause-named : goal.returns-in-Some-clause-named
returns-in-Some-clause-named c =
    subst (λ (o : Option MemberAt). IfSome o
    (λ m. named_at c.args.set.now m ≡ (c.args.r.now.name, c.args.r.now.ty))) (sym c.field_found.ensures.is)
    (field_found_named c.args.set.now (c.args.r.now.name, c.args.r.now.ty) c.in-Some.class)
