-- Answers of `nearest`: what its calls ask for, and what it promises.
use Rattle.std.proofs.Common.{None, Some, ap, sym, ◌∙◌}
use Rattle.std.proofs.lemmas.List.Elements.{All-rest, All-same}
use Rattle.std.specs.List.{find}
use Rattle.class_pool.specs.Found.{declared_by, named_at}
use Rattle.link_check.specs.bodies.Overriding.{alike_from, overrides_where}
use Rattle.class_pool.specs.Hierarchy.{IsClass}
use Rattle.link_check.proofs.Upwards.{find_here, find_on}
use Rattle.link_check.proofs.references.selection.nearest.Goals as goal

pub loop-class-init : goal.loop-class-init
loop-class-init c = record {
  there =
      All-same (IsClass c.args.set.now) c.into_iter-class-iterator.result c.up-class-items.result
      c.into_iter-class-iterator.ensures.into_iter_gives c.up-class-items.ensures.there;
  found =
      ap (λ cs. find (overrides_where c.args.set.now c.args.m.now c.args.opened)
      (declared_by c.args.set.now (named_at c.args.set.now c.args.m.now) cs))
      (c.into_iter-class-iterator.ensures.into_iter_gives ∙ c.up-class-items.ensures.are)
      ∙ ap (find (overrides_where c.args.set.now c.args.m.now c.args.opened)) (sym c.alike_from.ensures.same);
}

pub returns-then-overrides_where-clause-is : goal.returns-then-overrides_where-clause-is
returns-then-overrides_where-clause-is c =
    find_here c.args.set.now
    (named_at c.args.set.now c.args.m.now) c.loop-class.class-iterator c.next.new.self c.in-Some.class
    (overrides_where c.args.set.now c.args.m.now c.args.opened)
    (find (overrides_where c.args.set.now c.args.m.now c.args.opened)
    (alike_from c.args.set.now c.args.m.now c.args.class.now))
    c.in-Some-method_like.found c.in-Some.ensures.steps (sym c.method_like.ensures.is ∙ c.in-Some-method_like.is)
    (sym c.overrides_where.ensures ∙ c.if-overrides_where.true) c.loop-class.invariant.found

pub loop-class-preserved-else-overrides_where : goal.loop-class-preserved-else-overrides_where
loop-class-preserved-else-overrides_where c = record {
  there = All-rest
      (IsClass c.args.set.now) c.in-Some.class c.next.new.self c.loop-class.class-iterator c.in-Some.ensures.steps
      c.loop-class.invariant.there;
  found =
      find_on c.args.set.now
      (named_at c.args.set.now c.args.m.now) c.loop-class.class-iterator c.next.new.self c.in-Some.class
      (overrides_where c.args.set.now c.args.m.now c.args.opened)
      (find (overrides_where c.args.set.now c.args.m.now c.args.opened)
      (alike_from c.args.set.now c.args.m.now c.args.class.now))
      (Some c.in-Some-method_like.found) c.in-Some.ensures.steps
      (sym c.method_like.ensures.is ∙ c.in-Some-method_like.is)
      (sym c.overrides_where.ensures ∙ c.if-overrides_where.false) c.loop-class.invariant.found;
}

pub loop-class-preserved : goal.loop-class-preserved
loop-class-preserved c = record {
  there = All-rest
      (IsClass c.args.set.now) c.in-Some.class c.next.new.self c.loop-class.class-iterator c.in-Some.ensures.steps
      c.loop-class.invariant.there;
  found =
      find_on c.args.set.now
      (named_at c.args.set.now c.args.m.now) c.loop-class.class-iterator c.next.new.self c.in-Some.class
      (overrides_where c.args.set.now c.args.m.now c.args.opened)
      (find (overrides_where c.args.set.now c.args.m.now c.args.opened)
      (alike_from c.args.set.now c.args.m.now c.args.class.now))
      None c.in-Some.ensures.steps (sym c.method_like.ensures.is ∙ c.in_default.is) tt c.loop-class.invariant.found;
}
