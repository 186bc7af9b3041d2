-- Answers of `first_same`: what its calls ask for, and what it promises.
use Rattle.std.proofs.Common.{None, Some, sym, ◌∙◌}
use Rattle.std.specs.List.{find}
use Rattle.std.proofs.lemmas.List.Elements.{All-rest}
use Rattle.class_pool.specs.Found.{declared_by, same_member}
use Rattle.class_pool.specs.Hierarchy.{IsClass}
use Rattle.class_pool.specs.Walk.{superclasses_from}
use Rattle.link_check.proofs.Upwards.{find_here, find_on}
use Rattle.link_check.proofs.references.running.first_same.Goals as goal

pub returns-then-is_same-clause-is : goal.returns-then-is_same-clause-is
returns-then-is_same-clause-is c =
    find_here c.args.set.now
    (c.args.r.now.name, c.args.r.now.ty) c.loop-class.class-iterator c.next.new.self c.in-Some.class
    (λ x. same_member x c.args.m.now)
    (find (λ x. same_member x c.args.m.now) (declared_by c.args.set.now (c.args.r.now.name, c.args.r.now.ty)
    (superclasses_from c.args.set.now c.args.class.now)))
    c.in-Some-declared_in.found c.in-Some.ensures.steps (sym c.declared_in.ensures.is ∙ c.in-Some-declared_in.is)
    (sym c.is_same.ensures ∙ c.if-is_same.true) c.loop-class.invariant.found

pub loop-class-preserved-else-is_same : goal.loop-class-preserved-else-is_same
loop-class-preserved-else-is_same c = record {
  there = All-rest
      (IsClass c.args.set.now) c.in-Some.class c.next.new.self c.loop-class.class-iterator c.in-Some.ensures.steps
      c.loop-class.invariant.there;
  found =
      find_on c.args.set.now
      (c.args.r.now.name, c.args.r.now.ty) c.loop-class.class-iterator c.next.new.self c.in-Some.class
      (λ x. same_member x c.args.m.now)
      (find (λ x. same_member x c.args.m.now) (declared_by c.args.set.now (c.args.r.now.name, c.args.r.now.ty)
      (superclasses_from c.args.set.now c.args.class.now)))
      (Some c.in-Some-declared_in.found) c.in-Some.ensures.steps
      (sym c.declared_in.ensures.is ∙ c.in-Some-declared_in.is)
      (sym c.is_same.ensures ∙ c.if-is_same.false) c.loop-class.invariant.found;
}

pub loop-class-preserved : goal.loop-class-preserved
loop-class-preserved c = record {
  there = All-rest
      (IsClass c.args.set.now) c.in-Some.class c.next.new.self c.loop-class.class-iterator c.in-Some.ensures.steps
      c.loop-class.invariant.there;
  found =
      find_on c.args.set.now
      (c.args.r.now.name, c.args.r.now.ty) c.loop-class.class-iterator c.next.new.self c.in-Some.class
      (λ x. same_member x c.args.m.now)
      (find (λ x. same_member x c.args.m.now) (declared_by c.args.set.now (c.args.r.now.name, c.args.r.now.ty)
      (superclasses_from c.args.set.now c.args.class.now)))
      None c.in-Some.ensures.steps (sym c.declared_in.ensures.is ∙ c.in_default.is) tt c.loop-class.invariant.found;
}
