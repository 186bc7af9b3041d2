-- Answers of `with_method`: what its calls ask for, and what it promises.
use Rattle.std.proofs.Common.{ap, arith, subst, sym, ◌∙◌, ◌≤◌}
use Rattle.class_pool.specs.declared.id.ClassId.TheVariants.{Prog}
use Rattle.jv_base.specs.Types.{method_text}
use Rattle.method_places.specs.bodies.Alike.{Knows}
use Rattle.method_places.specs.declared.alike.Group.{Group}
use Rattle.method_places.proofs.Grouping.{first_earlier, same_named}
use Rattle.method_places.proofs.alike.with_method.Goals as goal

pub returns-in-None-clause-added : goal.returns-in-None-clause-added
returns-in-None-clause-added c = (
  c.requires.named,
  first_earlier c.args.set.now c.args.number c.args.index c.requires.method
      (λ k less method same. subst (λ (g : Group). Knows c.args.set.now g
      (record { class = Prog c.args.number; index = k })) c.in-None.is (c.requires.earlier k less method same)),
  omega arith,
)

pub returns-in-Of-clause-added : goal.returns-in-Of-clause-added
returns-in-Of-clause-added c =
    let both = c.is_alike.ensures c.if-is_alike.true in (
      c.requires.named
          ∙ same_named c.args.method.now c.in-Of.one.now (sym both.0) (ap method_text (sym both.1)),
      first_earlier c.args.set.now c.args.number c.args.index c.requires.method
          (λ k less method same.
          let known = subst (λ (g : Group). Knows c.args.set.now g
          (record { class = Prog c.args.number; index = k })) c.in-Of.is (c.requires.earlier k less method same) in
          let last : c.args.number ≤ c.in-Of.last = known.2 in
          absurd (omega (arith, last, c.if-last-number.true))),
      omega arith,
    )
