-- Answers of `is_maximally_specific`: what its calls ask for, and what it promises.
use Rattle.std.proofs.Common.{◌∙◌, ap, sym, not}
use Rattle.std.specs.List.{list_any}
use Rattle.std.proofs.lemmas.List.Elements.{All-rest, All-same}
use Rattle.class_pool.specs.Found.{IsMember}
use Rattle.class_pool.specs.Resolution.{is_subinterface}
use Rattle.link_check.proofs.Choosing.{maximal_met}
use Rattle.link_check.proofs.Passing.{any_passed}
use Rattle.link_check.proofs.references.superinterface_methods.is_maximally_specific.Goals as goal

pub loop-other-init : goal.loop-other-init
loop-other-init c = record {
  same = ap (λ ms. not (list_any (λ other. is_subinterface c.args.set.now other.class c.args.m.now.class) ms))
      (c.into_iter-other-iterator.ensures.into_iter_gives ∙ c.of-other-items.ensures.are)
      ∙ maximal_met c.args.set.now c.args.class.now (c.args.name.now, c.args.ty.now) c.args.m.now;
  there = All-same
      (IsMember c.args.set.now) c.into_iter-other-iterator.result c.of-other-items.result
      c.into_iter-other-iterator.ensures.into_iter_gives
      c.of-other-items.ensures.there;
}

pub loop-other-preserved : goal.loop-other-preserved
loop-other-preserved c = record {
  same = sym
      (ap not
      (any_passed
      (λ other. is_subinterface c.args.set.now other.class c.args.m.now.class) c.loop-other.other-iterator
      c.next.new.self c.in-Some.other
      c.is_subinterface.result c.in-Some.ensures.steps c.is_subinterface.ensures c.if-is_subinterface.false))
      ∙ c.loop-other.invariant.same;
  there = All-rest
      (IsMember c.args.set.now) c.in-Some.other c.next.new.self c.loop-other.other-iterator c.in-Some.ensures.steps
      c.loop-other.invariant.there;
}
