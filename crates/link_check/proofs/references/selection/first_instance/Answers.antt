-- Answers of `first_instance`: what its calls ask for, and what it promises.
use Rattle.std.proofs.Common.{None, Some, ap, sym, ◌∙◌}
use Rattle.std.proofs.lemmas.List.Elements.{All-rest, All-same}
use Rattle.std.specs.List.{find}
use Rattle.class_pool.specs.Found.{declared_by, is_instance_method, named_at}
use Rattle.class_pool.specs.Selection.{first_instance}
use Rattle.class_pool.specs.Hierarchy.{IsClass}
use Rattle.link_check.proofs.Upwards.{find_here, find_on}
use Rattle.link_check.proofs.references.selection.first_instance.Goals as goal

pub loop-class-init : goal.loop-class-init
loop-class-init c = record {
  there =
      All-same (IsClass c.args.set.now) c.into_iter-class-iterator.result c.up-class-items.result
      c.into_iter-class-iterator.ensures.into_iter_gives c.up-class-items.ensures.there;
  found =
      ap (λ cs. find (is_instance_method c.args.set.now)
      (declared_by c.args.set.now (named_at c.args.set.now c.args.m.now) cs))
      (c.into_iter-class-iterator.ensures.into_iter_gives ∙ c.up-class-items.ensures.are)
      ∙ ap (find (is_instance_method c.args.set.now)) (sym c.alike_from.ensures.same);
}

pub returns-then-is_instance_method-clause-is : goal.returns-then-is_instance_method-clause-is
returns-then-is_instance_method-clause-is c =
    find_here c.args.set.now
    (named_at c.args.set.now c.args.m.now) c.loop-class.class-iterator c.next.new.self c.in-Some.class
    (is_instance_method c.args.set.now)
    (first_instance c.args.set.now c.args.class (named_at c.args.set.now c.args.m.now))
    c.in-Some-method_like.found c.in-Some.ensures.steps (sym c.method_like.ensures.is ∙ c.in-Some-method_like.is)
    (sym c.is_instance_method.ensures ∙ c.if-is_instance_method.true) c.loop-class.invariant.found

pub loop-class-preserved-else-is_instance_method : goal.loop-class-preserved-else-is_instance_method
loop-class-preserved-else-is_instance_method c = record {
  there = All-rest
      (IsClass c.args.set.now) c.in-Some.class c.next.new.self c.loop-class.class-iterator c.in-Some.ensures.steps
      c.loop-class.invariant.there;
  found =
      find_on c.args.set.now
      (named_at c.args.set.now c.args.m.now) c.loop-class.class-iterator c.next.new.self c.in-Some.class
      (is_instance_method c.args.set.now)
      (first_instance c.args.set.now c.args.class (named_at c.args.set.now c.args.m.now))
      (Some c.in-Some-method_like.found) c.in-Some.ensures.steps
      (sym c.method_like.ensures.is ∙ c.in-Some-method_like.is)
      (sym c.is_instance_method.ensures ∙ c.if-is_instance_method.false) c.loop-class.invariant.found;
}

pub loop-class-preserved : goal.loop-class-preserved
loop-class-preserved c = record {
  there = All-rest
      (IsClass c.args.set.now) c.in-Some.class c.next.new.self c.loop-class.class-iterator c.in-Some.ensures.steps
      c.loop-class.invariant.there;
  found =
      find_on c.args.set.now
      (named_at c.args.set.now c.args.m.now) c.loop-class.class-iterator c.next.new.self c.in-Some.class
      (is_instance_method c.args.set.now)
      (first_instance c.args.set.now c.args.class (named_at c.args.set.now c.args.m.now))
      None c.in-Some.ensures.steps (sym c.method_like.ensures.is ∙ c.in_default.is) tt c.loop-class.invariant.found;
}
