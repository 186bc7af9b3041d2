-- Answers of `mark_pair`: what its calls ask for, and what it promises.
use Rattle.std.proofs.Common.{◌<◌, sym, subst}
use Rattle.mark_core.proofs.Sets.{read_true}
use Rattle.mark_core.proofs.Growing.{derived_due}
use Rattle.mark_core.proofs.plain.mark_pair.Goals as goal

pub mark-requires-clause-due : goal.mark-requires-clause-due
mark-requires-clause-due c =
    let sound = c.requires.sound in
    let marks = c.args.work.now.marks.items in
    derived_due c.args.sys.now c.args.pair c.requires.listed
    (sound.due c.args.pair.one
    (read_true marks c.args.pair.one _
    (subst (λ k. c.args.pair.one < k) (sym sound.count) c.requires.below.0) c.index.ensures c.if-index.true))
    (sound.due c.args.pair.two
    (read_true marks c.args.pair.two _
    (subst (λ k. c.args.pair.two < k)
    (sym sound.count) c.requires.below.1) c.index-then-index.ensures c.if-index-2.true))
