-- Answers of `field_found`: what its calls ask for, and what it promises.
use Rattle.std.proofs.Common.{◌∙◌, ◌∷◌, ap, sym}
use Rattle.std.specs.List.{flat_map}
use Rattle.std.specs.Option.{option_or}
use Rattle.std.proofs.lemmas.List.Elements.{All-rest}
use Rattle.class_pool.specs.Hierarchy.{IsClass}
use Rattle.class_pool.specs.Resolution.{first_declared}
use Rattle.class_pool.specs.Walk.{own_superinterfaces}
use Rattle.link_check.proofs.Passing.{field_passed}
use Rattle.link_check.proofs.references.found.field_found.Goals as goal

pub returns-in-Some-first_declared-clause-is : goal.returns-in-Some-first_declared-clause-is
returns-in-Some-first_declared-clause-is c =
    sym (field_passed c.args.set.now
    (c.args.name.now, c.args.ty.now) c.loop-class.class-iterator c.next.new.self c.in-Some.class c.declared_in.result
    c.own_superinterfaces.result.now
    c.first_declared.result c.in-Some.ensures.steps c.declared_in.ensures.is c.in_default.is
    c.own_superinterfaces.ensures.are c.first_declared.ensures.is
    ∙ ap (λ r. option_or r (first_declared c.args.set.now (c.args.name.now, c.args.ty.now)
    (flat_map (λ d. d ∷ own_superinterfaces c.args.set.now d) c.next.new.self)))
    c.in-Some-first_declared.is)
    ∙ c.loop-class.invariant.same

pub loop-class-preserved : goal.loop-class-preserved
loop-class-preserved c = record {
  same = sym
      (field_passed c.args.set.now
      (c.args.name.now, c.args.ty.now) c.loop-class.class-iterator c.next.new.self c.in-Some.class c.declared_in.result
      c.own_superinterfaces.result.now c.first_declared.result c.in-Some.ensures.steps c.declared_in.ensures.is
      c.in_default.is c.own_superinterfaces.ensures.are
      c.first_declared.ensures.is
      ∙ ap (λ r. option_or r (first_declared c.args.set.now (c.args.name.now, c.args.ty.now)
      (flat_map (λ d. d ∷ own_superinterfaces c.args.set.now d) c.next.new.self)))
      c.in_default-first_declared.is)
      ∙ c.loop-class.invariant.same;
  there = All-rest
      (IsClass c.args.set.now) c.in-Some.class c.next.new.self c.loop-class.class-iterator c.in-Some.ensures.steps
      c.loop-class.invariant.there;
}
