-- Answers of `TypeLists::shared`: what its calls ask for, and what it promises.
use Rattle.std.proofs.Common.{arith}
use Rattle.class_model.proofs.TypesAbove.{shorter_begins}
use Rattle.class_model.proofs.type_lists.TypeLists.shared.Goals as goal

pub loop-left-preserved : goal.loop-left-preserved
loop-left-preserved c = record {
  one = omega arith;
  other = omega arith;
  same = omega arith;
  left = shorter_begins c.args.self.now c.loop-left.left c.below-left.result _ c.below-left.ensures.len
      c.below-left.ensures.top c.loop-left.invariant.left;
  right = shorter_begins c.args.self.now c.loop-left.right c.below-right.result _ c.below-right.ensures.len
      c.below-right.ensures.top c.loop-left.invariant.right;
}
