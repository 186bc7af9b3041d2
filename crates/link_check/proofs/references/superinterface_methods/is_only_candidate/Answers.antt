-- Answers of `is_only_candidate`: what its calls ask for, and what it promises.
use Rattle.std.proofs.Common.{◌∙◌, ap, sym}
use Rattle.std.specs.List.{filter, list_all}
use Rattle.std.proofs.lemmas.List.Elements.{All-rest, All-same}
use Rattle.class_pool.specs.Found.{IsMember, same_member}
use Rattle.class_pool.specs.Resolution.{superinterface_methods}
use Rattle.link_check.specs.bodies.Walks.{is_candidate}
use Rattle.link_check.proofs.Choosing.{all_candidates}
use Rattle.link_check.proofs.Passing.{all_passed, filter_passed}
use Rattle.link_check.proofs.references.superinterface_methods.is_only_candidate.Goals as goal

pub loop-m-init : goal.loop-m-init
loop-m-init c = record {
  same = ap (λ ms. list_all (same_member c.args.one.now) (filter
      (is_candidate c.args.set.now
      (superinterface_methods c.args.set.now c.args.class.now (c.args.name.now, c.args.ty.now))) ms))
      (c.into_iter-m-iterator.ensures.into_iter_gives ∙ c.of-m-items.ensures.are)
      ∙ all_candidates c.args.set.now c.args.class.now (c.args.name.now, c.args.ty.now) (same_member c.args.one.now);
  there = All-same
      (IsMember c.args.set.now) c.into_iter-m-iterator.result c.of-m-items.result
      c.into_iter-m-iterator.ensures.into_iter_gives c.of-m-items.ensures.there;
}

pub loop-m-preserved-then-not-is_candidate : goal.loop-m-preserved-then-not-is_candidate
loop-m-preserved-then-not-is_candidate c = record {
  same = sym (ap (list_all (same_member c.args.one.now)) (filter_passed
      (is_candidate c.args.set.now
      (superinterface_methods c.args.set.now c.args.class.now (c.args.name.now, c.args.ty.now))) c.loop-m.m-iterator
      c.next.new.self c.in-Some.m c.is_candidate.result c.in-Some.ensures.steps c.is_candidate.ensures
      c.if-not-is_candidate.true))
      ∙ c.loop-m.invariant.same;
  there = All-rest
      (IsMember c.args.set.now) c.in-Some.m c.next.new.self c.loop-m.m-iterator c.in-Some.ensures.steps
      c.loop-m.invariant.there;
}

pub loop-m-preserved : goal.loop-m-preserved
loop-m-preserved c = record {
  same = sym (all_passed (is_candidate c.args.set.now (superinterface_methods c.args.set.now c.args.class.now
      (c.args.name.now, c.args.ty.now))) (same_member c.args.one.now)
      c.loop-m.m-iterator c.next.new.self c.in-Some.m c.is_candidate.result c.is_same.result c.in-Some.ensures.steps
      c.is_candidate.ensures c.if-not-is_candidate.false
      c.is_same.ensures c.if-not-is_same.false)
      ∙ c.loop-m.invariant.same;
  there = All-rest
      (IsMember c.args.set.now) c.in-Some.m c.next.new.self c.loop-m.m-iterator c.in-Some.ensures.steps
      c.loop-m.invariant.there;
}
