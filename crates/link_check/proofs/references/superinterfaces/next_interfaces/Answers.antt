-- Answers of `next_interfaces`: what its calls ask for, and what it promises.
use Rattle.std.proofs.Common.{◌∙◌, sym}
use Rattle.std.proofs.lemmas.List.Elements.{All-rest}
use Rattle.class_pool.specs.Hierarchy.{IsClass}
use Rattle.link_check.proofs.Passing.{class_skipped}
use Rattle.link_check.proofs.references.superinterfaces.next_interfaces.Goals as goal

pub returns-then-not-is_empty-2-clause-later : goal.returns-then-not-is_empty-2-clause-later
returns-then-not-is_empty-2-clause-later c =
    All-rest (IsClass c.args.set.now) c.in-Some.class c.next.new.self c.loop-class.classes c.in-Some.ensures.steps
    c.loop-class.invariant.there

pub loop-class-preserved : goal.loop-class-preserved
loop-class-preserved c = record {
  left = c.loop-class.invariant.left
      ∙ class_skipped c.args.set.now c.loop-class.classes c.next.new.self c.own_superinterfaces-own.result.now
      c.in-Some.class c.in-Some.ensures.steps
      c.own_superinterfaces-own.ensures.are (sym c.is_empty-in-Some.ensures ∙ c.if-not-is_empty-2.false);
  there = All-rest
      (IsClass c.args.set.now) c.in-Some.class c.next.new.self c.loop-class.classes c.in-Some.ensures.steps
      c.loop-class.invariant.there;
}
