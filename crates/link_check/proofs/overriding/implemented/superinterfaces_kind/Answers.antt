-- Answers of `superinterfaces_kind`: what its calls ask for, and what it promises.
use Rattle.std.proofs.Common.{List, ◌∙◌, ap, sym}
use Rattle.std.specs.List.{flat_map}
use Rattle.std.proofs.lemmas.List.Elements.{All-rest}
use Rattle.class_pool.specs.declared.id.ClassId.{ClassId}
use Rattle.class_pool.specs.Hierarchy.{IsClass}
use Rattle.class_pool.specs.Walk.{own_superinterfaces}
use Rattle.link_check.specs.declared.fault.ProfileKind.{ProfileKind}
use Rattle.link_check.specs.bodies.Inherited.{running_kinds_of}
use Rattle.link_check.specs.Profile.{least}
use Rattle.class_pool.specs.Walk.{superclasses_up}
use Rattle.link_check.proofs.Walks.{flat_flat, gathered_all, gathered_more}
use Rattle.link_check.proofs.overriding.implemented.superinterfaces_kind.Goals as goal

pub loop-class-preserved : goal.loop-class-preserved
loop-class-preserved c =
    let kinds : ClassId → List ProfileKind = λ d. flat_map (running_kinds_of c.args.set.now c.args.number)
    (own_superinterfaces c.args.set.now d) in
    record {
      there = All-rest
          (IsClass c.args.set.now) c.in-Some.class c.next.new.self c.loop-class.class-iterator c.in-Some.ensures.steps
          c.loop-class.invariant.there;
      gathered =
          gathered_more kinds
          (superclasses_up c.args.set.now c.args.class) c.loop-class.class-iterator c.next.new.self c.in-Some.class
          c.loop-class.kind
          c.own_kind.result c.lesser-kind.result c.in-Some.ensures.steps c.loop-class.invariant.gathered
          c.own_kind.ensures c.lesser-kind.ensures;
    }

pub returns : goal.returns
returns c =
    let f : ClassId → List ProfileKind = running_kinds_of c.args.set.now c.args.number in
    let h : ClassId → List ClassId = own_superinterfaces c.args.set.now in
    gathered_all (λ d. flat_map f (h d))
    (superclasses_up c.args.set.now c.args.class) c.loop-class.class-iterator c.loop-class.kind
    c.loop-class.invariant.gathered
    c.in-None.ensures.steps.0
    ∙ ap least (sym (flat_flat f h (superclasses_up c.args.set.now c.args.class)))
