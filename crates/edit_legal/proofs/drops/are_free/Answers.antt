-- Answers of `are_free`: what its calls ask for, and what it promises.
use Rattle.std.proofs.Common.{◌∙◌, sym, arith}
use Rattle.edit_legal.proofs.Ranges.{free_step}
use Rattle.edit_legal.proofs.drops.are_free.Goals as goal

pub loop-preserved : goal.loop-preserved
loop-preserved c = (
  sym (free_step c.args.needed.now c.args.dropped.now c.loop.at c.args.count c.loop.counter
      c.loop-test.true (sym c.has.ensures ∙ c.if-has.false)
      (sym c.has-in-loop.ensures ∙ c.if-has-2.false)) ∙ c.loop.invariant.0,
  omega (arith, c.loop.invariant.1),
)
