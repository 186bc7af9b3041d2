-- Answers of `is_below`: what its calls ask for, and what it promises.
use Rattle.std.proofs.Common.{sym, ◌∙◌, ap, subst}
use Rattle.std.specs.List.{All, list_any}
use Rattle.std.proofs.lemmas.List.Elements.{All-rest}
use Rattle.class_pool.specs.Hierarchy.{IsClass}
use Rattle.class_pool.specs.Supers.{is_below}
use Rattle.class_pool.specs.bodies.Supers.{is_self_or_own}
use Rattle.class_pool.proofs.SupersLaws.{any_below}
use Rattle.link_check.proofs.Alone.{any_on}
use Rattle.link_check.proofs.references.running.is_below.Goals as goal

pub loop-class-init : goal.loop-class-init
loop-class-init c = record {
  there = subst (All (IsClass c.args.set.now)) (sym c.into_iter-class-iterator.ensures.into_iter_gives)
      c.of-class-items.ensures.there;
  found =
      ap (list_any (is_self_or_own c.args.set.now c.args.above))
      (c.into_iter-class-iterator.ensures.into_iter_gives ∙ c.of-class-items.ensures.are)
      ∙ any_below c.args.set.now c.args.below c.args.above;
}

pub loop-class-preserved : goal.loop-class-preserved
loop-class-preserved c = record {
  there = All-rest
      (IsClass c.args.set.now) c.in-Some.class c.next.new.self c.loop-class.class-iterator c.in-Some.ensures.steps
      c.loop-class.invariant.there;
  found =
      any_on (is_self_or_own c.args.set.now c.args.above) c.loop-class.class-iterator c.next.new.self c.in-Some.class
      (is_below c.args.set.now c.args.below c.args.above) c.in-Some.ensures.steps
      (sym c.is_self_or_own.ensures ∙ c.if-is_self_or_own.false) c.loop-class.invariant.found;
}
