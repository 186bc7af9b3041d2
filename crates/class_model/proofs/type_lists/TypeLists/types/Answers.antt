-- Answers of `TypeLists::types`: what its calls ask for, and what it promises.
use Rattle.std.proofs.Common.{ℕ, ap, ◌∙◌, arith}
use mathlib.Core.List.{reverse}
use Rattle.class_model.specs.declared.frame.VType.{VType}
use Rattle.class_model.proofs.TypesAbove.{down, down_more, down_done, turned}
use Rattle.class_model.proofs.type_lists.TypeLists.types.Goals as goal

pub loop-preserved : goal.loop-preserved
loop-preserved c = record {
  types = rw (c.in_ok-push.ensures.items, c.in_ok-last.ensures, c.below-rest.ensures.top)
      (down_more c.args.self.now c.loop.types.items c.saturating_sub-count.result c.loop.counter c.loop.rest.top _
      c.loop-test.true c.loop.invariant.types);
  left = omega arith;
}

pub returns : goal.returns
returns c =
    let types = c.args.self.now in
    let top = c.args.list.top in
    c.from_vec.ensures ∙ c.reverse.ensures.items
    ∙ ap (reverse {A = VType}) (down_done types c.loop.types.items c.saturating_sub-count.result c.loop.counter
    c.loop.rest.top _
    c.loop-test.false c.loop.invariant.types)
    ∙ ap (λ (n : ℕ). reverse (down types n top)) c.saturating_sub-count.ensures
    ∙ turned types c.args.list.len c.args.from top
