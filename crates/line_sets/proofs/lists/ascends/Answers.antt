-- Answers of `ascends`: what its calls ask for, and what it promises.
use Rattle.std.proofs.Common.{◌∙◌, sym}
use Rattle.class_pool.proofs.Ascending.{ascends_more, next_less}
use Rattle.line_sets.proofs.lists.ascends.Goals as goal

pub loop-number-preserved : goal.loop-number-preserved
loop-number-preserved c =
    ascends_more c.args.files.now c.loop-number.number c.loop-number.invariant
    (λ d. next_less c.args.files.now c.loop-number.number c.index-files-number.result
    c.index-files-number-in-loop-number.result d c.loop-number-test.true (sym c.ge.ensures ∙ c.if-ge.false))
