-- Answers of `TypeLists::beginning`: what its calls ask for, and what it promises.
use Rattle.std.proofs.Common.{◌∙◌, arith}
use Rattle.class_model.proofs.TypesAbove.{below_begins, begins_whole}
use Rattle.class_model.proofs.type_lists.TypeLists.beginning.Goals as goal

pub loop-beginning-preserved : goal.loop-beginning-preserved
loop-beginning-preserved c = record {
  long = omega arith;
  begins = below_begins c.args.self.now c.loop-beginning.beginning c.below-beginning.result c.args.len
      c.below-beginning.ensures.len c.below-beginning.ensures.top (omega arith)
      ∙ c.loop-beginning.invariant.begins;
}

pub returns-clause-types : goal.returns-clause-types
returns-clause-types c = begins_whole c.args.self.now c.loop-beginning.beginning c.args.len _ (omega arith)
    c.loop-beginning.invariant.begins
