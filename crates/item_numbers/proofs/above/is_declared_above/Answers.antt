-- Answers of `is_declared_above`: what its calls ask for, and what it promises.
use Rattle.std.proofs.Common.{◌≡◌, ◌<◌, ◌-◌, ◌+◌, ℕ, arith, refl, subst, sym, ◌∙◌}
use Rattle.class_pool.specs.Found.{named_at}
use Rattle.class_pool.specs.Hierarchy.{superclass}
use Rattle.class_pool.specs.Walk.{upwards}
use Rattle.class_pool.specs.declared.id.ClassId.TheVariants.{Prog}
use Rattle.item_numbers.specs.bodies.Alone.{AreUndeclared}
use Rattle.item_numbers.proofs.AloneLaw.{undeclared_end, undeclared_on, undeclared_stop}
use Rattle.item_numbers.proofs.Looking.{above_is, above_none, above_there}
use Rattle.item_numbers.proofs.above.is_declared_above.Goals as goal

pub returns-in_default : goal.returns-in_default
returns-in_default c said =
    let set = c.args.set.now in
    let some : 0 < 8589934592 - c.loop.counter = omega (arith, c.loop-test.true) in
    c.loop.invariant.rest (undeclared_end set (named_at set c.args.m.now) (8589934592 - c.loop.counter) c.loop.next
    c.method_like.result (superclass set (Prog c.loop.next)) some c.method_like.ensures.is
    (sym c.is_some.ensures ∙ c.if-is_some.false) refl
    (above_none (superclass set (Prog c.loop.next)) (sym c.in_default.is ∙ c.superclass_number.ensures)))

pub loop-preserved : goal.loop-preserved
loop-preserved c =
    let set = c.args.set.now in
    let some : 0 < 8589934592 - c.loop.counter = omega (arith, c.loop-test.true) in
    let less : 8589934592 - (c.loop.counter + 1) ≡ 8589934592 - c.loop.counter - 1 = omega arith in
    record {
      there = above_there set c.loop.next c.in-Some.above c.superclass_number.result c.superclass_number.ensures
          c.in-Some.is;
      rest = λ later.
          c.loop.invariant.rest (undeclared_on set (named_at set c.args.m.now) (8589934592 - c.loop.counter)
          c.loop.next c.in-Some.above c.method_like.result (superclass set (Prog c.loop.next)) some
          c.method_like.ensures.is (sym c.is_some.ensures ∙ c.if-is_some.false) refl
          (above_is (superclass set (Prog c.loop.next)) c.in-Some.above
          (sym c.in-Some.is ∙ c.superclass_number.ensures))
          (subst (λ (j : ℕ). AreUndeclared set (named_at set c.args.m.now) (upwards j set (Prog c.in-Some.above)))
          less later));
    }

pub returns : goal.returns
returns c said =
    c.loop.invariant.rest (undeclared_stop c.args.set.now (named_at c.args.set.now c.args.m.now)
    (8589934592 - c.loop.counter) (Prog c.loop.next) (omega (arith, c.loop-test.false)))
