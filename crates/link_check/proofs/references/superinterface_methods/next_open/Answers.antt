-- Answers of `next_open`: what its calls ask for, and what it promises.
use Rattle.std.proofs.Common.{◌∙◌}
use Rattle.std.proofs.lemmas.List.Elements.{All-rest}
use Rattle.class_pool.specs.Hierarchy.{IsClass}
use Rattle.link_check.proofs.Passing.{closed_passed, undeclared_passed}
use Rattle.link_check.proofs.references.superinterface_methods.next_open.Goals as goal

pub returns-then-is_open-clause-later : goal.returns-then-is_open-clause-later
returns-then-is_open-clause-later c =
    All-rest (IsClass c.args.set.now) c.in-Some.interface c.next.new.self c.loop-interface.interfaces
    c.in-Some.ensures.steps c.loop-interface.invariant.there

pub loop-interface-preserved-else-is_open : goal.loop-interface-preserved-else-is_open
loop-interface-preserved-else-is_open c = record {
  same = c.loop-interface.invariant.same
      ∙ closed_passed c.args.set.now
      (c.args.name.now, c.args.ty.now) c.loop-interface.interfaces c.next.new.self c.in-Some.interface
      c.declared_in.result c.in-Some-declared_in.m
      c.is_open.result c.in-Some.ensures.steps c.declared_in.ensures.is c.in-Some-declared_in.is c.is_open.ensures
      c.if-is_open.false;
  there = All-rest
      (IsClass c.args.set.now) c.in-Some.interface c.next.new.self c.loop-interface.interfaces c.in-Some.ensures.steps
      c.loop-interface.invariant.there;
}

pub loop-interface-preserved : goal.loop-interface-preserved
loop-interface-preserved c = record {
  same = c.loop-interface.invariant.same
      ∙ undeclared_passed c.args.set.now
      (c.args.name.now, c.args.ty.now) c.loop-interface.interfaces c.next.new.self c.in-Some.interface
      c.declared_in.result c.in-Some.ensures.steps
      c.declared_in.ensures.is c.in_default-declared_in.is;
  there = All-rest
      (IsClass c.args.set.now) c.in-Some.interface c.next.new.self c.loop-interface.interfaces c.in-Some.ensures.steps
      c.loop-interface.invariant.there;
}
