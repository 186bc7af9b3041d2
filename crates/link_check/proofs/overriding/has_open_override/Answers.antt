-- Answers of `has_open_override`: what its calls ask for, and what it promises.
use Rattle.std.proofs.Common.{None, Some, ◌&&◌, ◌||◌, ap, refl, sym, ◌∙◌}
use Rattle.std.proofs.lemmas.List.Elements.{All-rest}
use Rattle.class_pool.specs.Found.{same_member}
use Rattle.class_pool.specs.Hierarchy.{IsClass}
use Rattle.link_check.specs.bodies.Overriding.{overrides_openly}
use Rattle.link_check.proofs.Upwards.{open_here, open_on}
use Rattle.link_check.proofs.overriding.has_open_override.Goals as goal

pub returns-then-is_same : goal.returns-then-is_same
returns-then-is_same c =
    open_here c.args.set.now c.args.above.now c.loop-class.class-iterator c.next.new.self c.in-Some.class
    c.loop-class.opened c.in-Some-method_like.m _ c.in-Some.ensures.steps
    (sym c.method_like.ensures.is ∙ c.in-Some-method_like.is) c.if-not-opened.false
    (sym c.is_same.ensures ∙ c.if-is_same.true) c.loop-class.invariant.found

pub loop-class-preserved-then-not-opened : goal.loop-class-preserved-then-not-opened
loop-class-preserved-then-not-opened c = record {
  there = All-rest
      (IsClass c.args.set.now) c.in-Some.class c.next.new.self c.loop-class.class-iterator c.in-Some.ensures.steps
      c.loop-class.invariant.there;
  found =
      open_on c.args.set.now c.args.above.now c.loop-class.class-iterator c.next.new.self c.in-Some.class
      c.loop-class.opened c.overrides_openly-opened.result
      (Some c.in-Some-method_like.m) _ c.in-Some.ensures.steps (sym c.method_like.ensures.is ∙ c.in-Some-method_like.is)
      (ap (λ b. b && same_member c.in-Some-method_like.m c.args.above.now) c.if-not-opened.true)
      (c.overrides_openly-opened.ensures
      ∙ sym
      (ap (λ b. b
      || overrides_openly c.args.set.now c.args.above.now c.in-Some-method_like.m) c.if-not-opened.true))
      c.loop-class.invariant.found;
}

pub loop-class-preserved-else-is_same : goal.loop-class-preserved-else-is_same
loop-class-preserved-else-is_same c = record {
  there = All-rest
      (IsClass c.args.set.now) c.in-Some.class c.next.new.self c.loop-class.class-iterator c.in-Some.ensures.steps
      c.loop-class.invariant.there;
  found =
      open_on c.args.set.now c.args.above.now c.loop-class.class-iterator c.next.new.self c.in-Some.class
      c.loop-class.opened c.loop-class.opened
      (Some c.in-Some-method_like.m) _ c.in-Some.ensures.steps (sym c.method_like.ensures.is ∙ c.in-Some-method_like.is)
      (ap (λ b. b && same_member c.in-Some-method_like.m c.args.above.now) c.if-not-opened.false ∙ sym c.is_same.ensures
      ∙ c.if-is_same.false)
      (c.if-not-opened.false
      ∙ sym
      (ap (λ b. b
      || overrides_openly c.args.set.now c.args.above.now c.in-Some-method_like.m) c.if-not-opened.false))
      c.loop-class.invariant.found;
}

pub loop-class-preserved : goal.loop-class-preserved
loop-class-preserved c = record {
  there = All-rest
      (IsClass c.args.set.now) c.in-Some.class c.next.new.self c.loop-class.class-iterator c.in-Some.ensures.steps
      c.loop-class.invariant.there;
  found =
      open_on c.args.set.now c.args.above.now c.loop-class.class-iterator c.next.new.self c.in-Some.class
      c.loop-class.opened c.loop-class.opened None _
      c.in-Some.ensures.steps (sym c.method_like.ensures.is ∙ c.in_default.is) tt refl c.loop-class.invariant.found;
}
