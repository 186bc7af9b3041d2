-- Answers of `next_alike`: what its calls ask for, and what it promises.
use Rattle.std.proofs.Common.{◌∙◌, ◌∷◌, List, Option, ap, arith, sym}
use Rattle.std.specs.List.{cons_option}
use Rattle.class_pool.specs.declared.id.ClassId.{ClassId}
use Rattle.class_pool.specs.declared.id.MemberAt.{MemberAt}
use Rattle.class_pool.specs.Found.{declared_by, named_at}
use Rattle.class_pool.specs.Hierarchy.{superclass}
use Rattle.class_pool.specs.Walk.{superclasses_up}
use Rattle.class_pool.proofs.Declaring.{superclass_there}
use Rattle.class_pool.proofs.Noted.{up_rest}
use Rattle.class_pool.proofs.alike.next_alike.Goals as goal

pub loop-class-init : goal.loop-class-init
loop-class-init c =
    let are = c.into_iter-class-iterator.ensures.into_iter_gives ∙ c.up-class-items.ensures.are in (
      c.alike_from-from.result,
      c.alike_from-from.ensures.there,
      are,
      ap (λ (o : Option ClassId). declared_by c.args.set.now (named_at c.args.set.now c.args.m.now)
          (superclasses_up c.args.set.now o)) c.in_ok-next.was
          ∙ c.alike_from-from.ensures.same
          ∙ sym (ap (declared_by c.args.set.now (named_at c.args.set.now c.args.m.now)) are),
    )

pub loop-class-preserved : goal.loop-class-preserved
loop-class-preserved c = (
  superclass c.args.set.now c.in-Some.class,
  superclass_there c.args.set.now c.in-Some.class,
  up_rest c.args.set.now c.has_ranks.ensures (omega (arith, c.len-count.ensures)) c.loop-class.invariant.0
      c.in-Some.class c.next.new.self c.loop-class.invariant.1
      (sym c.loop-class.invariant.2 ∙ c.in-Some.ensures.steps),
  c.loop-class.invariant.3
      ∙ ap (declared_by c.args.set.now (named_at c.args.set.now c.args.m.now)) c.in-Some.ensures.steps
      ∙ ap (λ (o : Option MemberAt). cons_option o
      (declared_by c.args.set.now (named_at c.args.set.now c.args.m.now) c.next.new.self))
      (sym c.method_like.ensures.is ∙ c.in_default.is),
)

pub returns-in-Some-method_like-clause-first : goal.returns-in-Some-method_like-clause-first
returns-in-Some-method_like-clause-first c =
    c.loop-class.invariant.3
    ∙ ap (declared_by c.args.set.now (named_at c.args.set.now c.args.m.now)) c.in-Some.ensures.steps
    ∙ ap (λ (o : Option MemberAt). cons_option o
    (declared_by c.args.set.now (named_at c.args.set.now c.args.m.now) c.next.new.self))
    (sym c.method_like.ensures.is ∙ c.in-Some-method_like.is)
    ∙ ap (λ (cs : List ClassId). c.in-Some-method_like.found
    ∷ declared_by c.args.set.now (named_at c.args.set.now c.args.m.now) cs)
    (up_rest c.args.set.now c.has_ranks.ensures (omega (arith, c.len-count.ensures)) c.loop-class.invariant.0
    c.in-Some.class c.next.new.self c.loop-class.invariant.1
    (sym c.loop-class.invariant.2 ∙ c.in-Some.ensures.steps))
    ∙ ap (λ (o : Option ClassId). c.in-Some-method_like.found
    ∷ declared_by c.args.set.now (named_at c.args.set.now c.args.m.now) (superclasses_up c.args.set.now o))
    (sym c.super_of.ensures)
