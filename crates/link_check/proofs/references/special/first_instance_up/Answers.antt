-- Answers of `first_instance_up`: what its calls ask for, and what it promises.
use Rattle.std.proofs.Common.{None, Some, ap, sym, ◌∙◌}
use Rattle.std.specs.List.{find}
use Rattle.std.proofs.lemmas.List.Elements.{All-rest, All-same}
use Rattle.class_pool.specs.Found.{declared_by, is_instance_method}
use Rattle.class_pool.specs.Hierarchy.{IsClass}
use Rattle.class_pool.specs.Walk.{superclasses_up}
use Rattle.link_check.proofs.Upwards.{find_here, find_on}
use Rattle.link_check.proofs.references.special.first_instance_up.Goals as goal

pub loop-class-init : goal.loop-class-init
loop-class-init c = record {
  there =
      All-same (IsClass c.args.set.now) c.into_iter-class-iterator.result c.up-class-items.result
      c.into_iter-class-iterator.ensures.into_iter_gives c.up-class-items.ensures.there;
  found =
      ap (λ cs. find (is_instance_method c.args.set.now)
      (declared_by c.args.set.now (c.args.r.now.name, c.args.r.now.ty) cs))
      (c.into_iter-class-iterator.ensures.into_iter_gives ∙ c.up-class-items.ensures.are)
      ∙ ap (find (is_instance_method c.args.set.now)) (sym c.declaring_up.ensures.same);
}

pub returns-then-is_instance_method-clause-is : goal.returns-then-is_instance_method-clause-is
returns-then-is_instance_method-clause-is c =
    find_here c.args.set.now
    (c.args.r.now.name, c.args.r.now.ty) c.loop-class.class-iterator c.next.new.self c.in-Some.class
    (is_instance_method c.args.set.now)
    (find (is_instance_method c.args.set.now) (declared_by c.args.set.now (c.args.r.now.name, c.args.r.now.ty)
    (superclasses_up c.args.set.now c.args.class)))
    c.in-Some-declared_in.found c.in-Some.ensures.steps (sym c.declared_in.ensures.is ∙ c.in-Some-declared_in.is)
    (sym c.is_instance_method.ensures ∙ c.if-is_instance_method.true) c.loop-class.invariant.found

pub loop-class-preserved-else-is_instance_method : goal.loop-class-preserved-else-is_instance_method
loop-class-preserved-else-is_instance_method c = record {
  there = All-rest
      (IsClass c.args.set.now) c.in-Some.class c.next.new.self c.loop-class.class-iterator c.in-Some.ensures.steps
      c.loop-class.invariant.there;
  found =
      find_on c.args.set.now
      (c.args.r.now.name, c.args.r.now.ty) c.loop-class.class-iterator c.next.new.self c.in-Some.class
      (is_instance_method c.args.set.now)
      (find (is_instance_method c.args.set.now) (declared_by c.args.set.now (c.args.r.now.name, c.args.r.now.ty)
      (superclasses_up c.args.set.now c.args.class)))
      (Some c.in-Some-declared_in.found) c.in-Some.ensures.steps
      (sym c.declared_in.ensures.is ∙ c.in-Some-declared_in.is)
      (sym c.is_instance_method.ensures ∙ c.if-is_instance_method.false) c.loop-class.invariant.found;
}

pub loop-class-preserved : goal.loop-class-preserved
loop-class-preserved c = record {
  there = All-rest
      (IsClass c.args.set.now) c.in-Some.class c.next.new.self c.loop-class.class-iterator c.in-Some.ensures.steps
      c.loop-class.invariant.there;
  found =
      find_on c.args.set.now
      (c.args.r.now.name, c.args.r.now.ty) c.loop-class.class-iterator c.next.new.self c.in-Some.class
      (is_instance_method c.args.set.now)
      (find (is_instance_method c.args.set.now) (declared_by c.args.set.now (c.args.r.now.name, c.args.r.now.ty)
      (superclasses_up c.args.set.now c.args.class)))
      None c.in-Some.ensures.steps (sym c.declared_in.ensures.is ∙ c.in_default.is) tt c.loop-class.invariant.found;
}
