-- Answers of `ClassSet::is_sub`: what its calls ask for, and what it promises.
use Rattle.std.proofs.Common.{◌∙◌, ◌||◌, Bool, false, true, sym, ap, subst, arith}
use Rattle.std.specs.List.{list_any}
use Rattle.std.proofs.lemmas.List.Elements.{All-rest}
use Rattle.class_pool.specs.Hierarchy.{IsClass}
use Rattle.class_pool.specs.Ranks.{HasObject, HasRanks}
use Rattle.class_pool.specs.bodies.Supers.{is_self_or_own}
use Rattle.class_pool.proofs.SupersLaws.{climbed}
use Rattle.class_pool.proofs.set.ClassSet.is_sub.Goals as goal

pub returns-then-is_self_or_own : goal.returns-then-is_self_or_own
returns-then-is_self_or_own c =
    climbed c.args.self.now (subst HasRanks c.self.view_is c.self.invariant.1)
    (subst HasObject c.self.view_is c.self.invariant.7) c.args.a c.args.b true (omega (arith, c.len-count.ensures))
    c.requires.below
    (sym c.loop-class.invariant.same
    ∙ ap (list_any (is_self_or_own c.args.self.now c.args.b)) c.in-Some.ensures.steps
    ∙ ap (λ (t : Bool). t || list_any (is_self_or_own c.args.self.now c.args.b) c.next.new.self)
    (sym c.is_self_or_own.ensures ∙ c.if-is_self_or_own.true))

pub loop-class-preserved : goal.loop-class-preserved
loop-class-preserved c = record {
  same =
      sym
      (ap (list_any (is_self_or_own c.args.self.now c.args.b)) c.in-Some.ensures.steps
      ∙ ap (λ (t : Bool). t || list_any (is_self_or_own c.args.self.now c.args.b) c.next.new.self)
      (sym c.is_self_or_own.ensures ∙ c.if-is_self_or_own.false))
      ∙ c.loop-class.invariant.same;
  there = All-rest
      (IsClass c.args.self.now) c.in-Some.class c.next.new.self c.loop-class.class-iterator c.in-Some.ensures.steps
      c.loop-class.invariant.there;
}

pub returns : goal.returns
returns c =
    climbed c.args.self.now (subst HasRanks c.self.view_is c.self.invariant.1)
    (subst HasObject c.self.view_is c.self.invariant.7) c.args.a c.args.b false (omega (arith, c.len-count.ensures))
    c.requires.below
    (sym c.loop-class.invariant.same
    ∙ ap (list_any (is_self_or_own c.args.self.now c.args.b)) c.in-None.ensures.steps.0)
