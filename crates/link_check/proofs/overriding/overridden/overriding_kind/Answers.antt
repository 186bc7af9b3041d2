-- Answers of `overriding_kind`: what its calls ask for, and what it promises.
use Rattle.std.proofs.Common.{Option, IfSome, ◌∙◌, ap, subst, sym}
use Rattle.std.proofs.lemmas.List.Elements.{All-head, All-rest, All-same}
use Rattle.class_pool.specs.declared.id.ClassId.{ClassId}
use Rattle.class_pool.specs.Found.{IsMember, IsMethod, declared_by, declared_in, named_at}
use Rattle.class_pool.specs.Hierarchy.{IsClass}
use Rattle.class_pool.specs.Walk.{superclasses_up}
use Rattle.link_check.specs.Profile.{least, overridden_kinds}
use Rattle.link_check.specs.bodies.Inherited.{start_at}
use Rattle.link_check.proofs.Inheriting.{overridden_from, start_known}
use Rattle.link_check.proofs.Likes.{likes_are_methods}
use Rattle.link_check.proofs.Walks.{flat_filter, gathered_all, gathered_more, gathered_none}
use Rattle.link_check.proofs.overriding.overridden.overriding_kind.Goals as goal

pub up-above-items-requires-clause-class : goal.up-above-items-requires-clause-class
up-above-items-requires-clause-class c =
    subst (λ (o : Option ClassId). IfSome o (IsClass c.args.set.now)) (sym c.start_in.ensures)
    (start_known c.args.set.now c.args.known.now c.args.number c.requires.known c.requires.there).there

pub loop-above-init : goal.loop-above-init
loop-above-init c =
    let are = c.into_iter-above-iterator.ensures.into_iter_gives ∙ c.up-above-items.ensures.are in
    record {
      there =
          All-same (IsMember c.args.set.now) c.into_iter-above-iterator.result c.up-above-items.result
          c.into_iter-above-iterator.ensures.into_iter_gives c.up-above-items.ensures.there;
      methods =
          All-same (IsMethod c.args.set.now) c.into_iter-above-iterator.result _ are
          (likes_are_methods c.args.set.now c.args.m.now _ c.requires.method);
      gathered =
          gathered_none (overridden_kinds c.args.set.now c.args.m.now)
          (declared_by c.args.set.now (named_at c.args.set.now c.args.m.now)
          (superclasses_up c.args.set.now (start_at c.args.known.now c.args.number)))
          c.into_iter-above-iterator.result
          (are ∙ ap (λ (o : Option ClassId). declared_by c.args.set.now (named_at c.args.set.now c.args.m.now)
          (superclasses_up c.args.set.now o)) c.start_in.ensures);
    }

pub overridden_kind-requires-clause-above : goal.overridden_kind-requires-clause-above
overridden_kind-requires-clause-above c =
    All-head (IsMember c.args.set.now) c.in-Some.above c.next.new.self
    (All-same (IsMember c.args.set.now) _ c.loop-above.above-iterator (sym c.in-Some.ensures.steps)
    c.loop-above.invariant.there)

pub overridden_kind-requires-clause-method : goal.overridden_kind-requires-clause-method
overridden_kind-requires-clause-method c =
    All-head (IsMethod c.args.set.now) c.in-Some.above c.next.new.self
    (All-same (IsMethod c.args.set.now) _ c.loop-above.above-iterator (sym c.in-Some.ensures.steps)
    c.loop-above.invariant.methods)

pub loop-above-preserved : goal.loop-above-preserved
loop-above-preserved c = record {
  there = All-rest
      (IsMember c.args.set.now) c.in-Some.above c.next.new.self c.loop-above.above-iterator c.in-Some.ensures.steps
      c.loop-above.invariant.there;
  methods = All-rest
      (IsMethod c.args.set.now) c.in-Some.above c.next.new.self c.loop-above.above-iterator c.in-Some.ensures.steps
      c.loop-above.invariant.methods;
  gathered =
      gathered_more (overridden_kinds c.args.set.now c.args.m.now)
      (declared_by c.args.set.now (named_at c.args.set.now c.args.m.now)
      (superclasses_up c.args.set.now (start_at c.args.known.now c.args.number))) c.loop-above.above-iterator
      c.next.new.self c.in-Some.above c.loop-above.kind c.overridden_kind.result c.lesser-kind.result
      c.in-Some.ensures.steps c.loop-above.invariant.gathered c.overridden_kind.ensures c.lesser-kind.ensures;
}

pub returns : goal.returns
returns c =
    gathered_all (overridden_kinds c.args.set.now c.args.m.now)
    (declared_by c.args.set.now (named_at c.args.set.now c.args.m.now)
    (superclasses_up c.args.set.now (start_at c.args.known.now c.args.number))) c.loop-above.above-iterator
    c.loop-above.kind c.loop-above.invariant.gathered c.in-None.ensures.steps.0
    ∙ ap least (flat_filter (overridden_kinds c.args.set.now c.args.m.now)
    (declared_in c.args.set.now (named_at c.args.set.now c.args.m.now))
    (superclasses_up c.args.set.now (start_at c.args.known.now c.args.number))
    ∙ overridden_from c.args.set.now c.args.m.now c.args.number (start_at c.args.known.now c.args.number)
    (start_known c.args.set.now c.args.known.now c.args.number c.requires.known c.requires.there) c.requires.own
    c.requires.method)
