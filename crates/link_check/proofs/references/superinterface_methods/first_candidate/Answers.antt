-- Answers of `first_candidate`: what its calls ask for, and what it promises.
use Rattle.std.proofs.Common.{◌∙◌, ap, sym}
use Rattle.std.specs.List.{filter}
use Rattle.std.proofs.lemmas.List.Elements.{All-rest, All-same}
use Rattle.class_pool.specs.Found.{IsMember}
use Rattle.class_pool.specs.Resolution.{first, superinterface_methods}
use Rattle.link_check.specs.bodies.Walks.{is_candidate}
use Rattle.link_check.proofs.Choosing.{first_candidate}
use Rattle.link_check.proofs.Passing.{filter_passed}
use Rattle.link_check.proofs.references.superinterface_methods.first_candidate.Goals as goal

pub loop-m-init : goal.loop-m-init
loop-m-init c = record {
  same = ap (λ ms. first (filter (is_candidate c.args.set.now
      (superinterface_methods c.args.set.now c.args.class.now (c.args.name.now, c.args.ty.now))) ms))
      (c.into_iter-m-iterator.ensures.into_iter_gives ∙ c.of-m-items.ensures.are)
      ∙ first_candidate c.args.set.now c.args.class.now (c.args.name.now, c.args.ty.now);
  there = All-same
      (IsMember c.args.set.now) c.into_iter-m-iterator.result c.of-m-items.result
      c.into_iter-m-iterator.ensures.into_iter_gives c.of-m-items.ensures.there;
}

pub loop-m-preserved : goal.loop-m-preserved
loop-m-preserved c = record {
  same = sym (ap first (filter_passed (is_candidate c.args.set.now
      (superinterface_methods c.args.set.now c.args.class.now (c.args.name.now, c.args.ty.now))) c.loop-m.m-iterator
      c.next.new.self c.in-Some.m c.is_candidate.result c.in-Some.ensures.steps c.is_candidate.ensures
      c.if-is_candidate.false))
      ∙ c.loop-m.invariant.same;
  there = All-rest
      (IsMember c.args.set.now) c.in-Some.m c.next.new.self c.loop-m.m-iterator c.in-Some.ensures.steps
      c.loop-m.invariant.there;
}
