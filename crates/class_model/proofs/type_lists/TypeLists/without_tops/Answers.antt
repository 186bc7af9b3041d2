-- Answers of `TypeLists::without_tops`: what its calls ask for, and what it promises.
use Rattle.std.proofs.Common.{◌∙◌, sym, arith}
use Rattle.class_model.proofs.TypesAbove.{top_goes, nothing_goes}
use Rattle.class_model.proofs.type_lists.TypeLists.without_tops.Goals as goal

pub loop-cut-preserved : goal.loop-cut-preserved
loop-cut-preserved c = record {
  held = record { len = omega (arith, c.loop-cut.invariant.held.len); top = c.below-cut.ensures.lies };
  same = top_goes c.args.self.now c.loop-cut.cut c.below-cut.result c.below-cut.ensures.len c.below-cut.ensures.top
      (sym c.ends_in_top.ensures ∙ c.if-ends_in_top.true) ∙ c.loop-cut.invariant.same;
}

pub returns-else-ends_in_top-clause-types : goal.returns-else-ends_in_top-clause-types
returns-else-ends_in_top-clause-types c =
    nothing_goes c.args.self.now c.loop-cut.cut (sym c.ends_in_top.ensures ∙ c.if-ends_in_top.false)
    ∙ c.loop-cut.invariant.same
