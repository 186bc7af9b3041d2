-- Answers of `nearest_declared`: what its calls ask for, and what it promises.
use Rattle.std.proofs.Common.{◌∙◌, ap, sym}
use Rattle.std.proofs.lemmas.List.Elements.{All-rest, All-same}
use Rattle.class_pool.specs.Hierarchy.{IsClass}
use Rattle.class_pool.specs.Resolution.{first, first_declared}
use Rattle.link_check.proofs.Passing.{nearest_passed}
use Rattle.link_check.proofs.references.found.nearest_declared.Goals as goal

pub loop-class-init : goal.loop-class-init
loop-class-init c = record {
  same =
      ap (first_declared c.args.set.now (c.args.name.now, c.args.ty.now))
      (c.into_iter-class-iterator.ensures.into_iter_gives ∙ c.up-class-items.ensures.are)
      ∙ ap first (sym c.declaring_from.ensures.same);
  there =
      All-same (IsClass c.args.set.now) c.into_iter-class-iterator.result c.up-class-items.result
      c.into_iter-class-iterator.ensures.into_iter_gives c.up-class-items.ensures.there;
}

pub loop-class-preserved : goal.loop-class-preserved
loop-class-preserved c = record {
  same = sym
      (nearest_passed c.args.set.now
      (c.args.name.now, c.args.ty.now) c.loop-class.class-iterator c.next.new.self c.in-Some.class c.declared_in.result
      c.in-Some.ensures.steps
      c.declared_in.ensures.is c.in_default.is)
      ∙ c.loop-class.invariant.same;
  there = All-rest
      (IsClass c.args.set.now) c.in-Some.class c.next.new.self c.loop-class.class-iterator c.in-Some.ensures.steps
      c.loop-class.invariant.there;
}
