-- Answers of `method_of`: what its calls ask for, and what it promises.
use Rattle.std.proofs.Common.{◌≡◌, Option, IfSome, sym, subst}
use Rattle.class_pool.specs.Found.{named_at}
use Rattle.class_pool.specs.declared.id.MemberAt.{MemberAt}
use Rattle.link_check.proofs.Meaning.{method_found_named}
use Rattle.set_meanings.proofs.calls.method_of.Goals as goal

pub returns-clause-named : goal.returns-clause-named
returns-clause-named c =
    subst (λ (o : Option MemberAt). IfSome o
    (λ m. named_at c.args.set.now m ≡ (c.args.r.now.name, c.args.r.now.ty))) (sym c.method_found.ensures.is)
    (method_found_named c.args.set.now (c.args.r.now.name, c.args.r.now.ty) c.args.class)
