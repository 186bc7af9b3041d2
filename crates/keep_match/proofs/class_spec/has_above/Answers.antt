-- Answers of `has_above`: what its calls ask for, and what it promises.
use Rattle.std.proofs.Common.{◌∙◌, ◌||◌, Bool, sym, ap}
use Rattle.std.specs.List.{list_any}
use Rattle.std.proofs.lemmas.List.Elements.{All-rest}
use Rattle.class_pool.specs.Hierarchy.{IsClass}
use Rattle.keep_match.specs.bodies.Above.{is_met_at}
use Rattle.keep_match.proofs.AboveLaw.{above_is}
use Rattle.keep_match.proofs.class_spec.has_above.Goals as goal

pub returns-then-is_met_at : goal.returns-then-is_met_at
returns-then-is_met_at c =
    sym
    (ap (list_any (is_met_at c.args.pattern.now c.args.set.now c.args.number)) c.in-Some.ensures.steps
    ∙ ap (λ (t : Bool). t || list_any (is_met_at c.args.pattern.now c.args.set.now c.args.number) c.next.new.self)
    (sym c.is_met_at.ensures ∙ c.if-is_met_at.true))
    ∙ c.loop-class.invariant.same ∙ sym (above_is c.args.pattern.now c.args.set.now c.args.number)

pub loop-class-preserved : goal.loop-class-preserved
loop-class-preserved c = record {
  same =
      sym
      (ap (list_any (is_met_at c.args.pattern.now c.args.set.now c.args.number)) c.in-Some.ensures.steps
      ∙ ap (λ (t : Bool). t || list_any (is_met_at c.args.pattern.now c.args.set.now c.args.number) c.next.new.self)
      (sym c.is_met_at.ensures ∙ c.if-is_met_at.false))
      ∙ c.loop-class.invariant.same;
  there = All-rest
      (IsClass c.args.set.now) c.in-Some.class c.next.new.self c.loop-class.class-iterator c.in-Some.ensures.steps
      c.loop-class.invariant.there;
}

pub returns : goal.returns
returns c =
    sym (ap (list_any (is_met_at c.args.pattern.now c.args.set.now c.args.number)) c.in-None.ensures.steps.0)
    ∙ c.loop-class.invariant.same ∙ sym (above_is c.args.pattern.now c.args.set.now c.args.number)
