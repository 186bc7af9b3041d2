-- Answers of `claim`: what its calls ask for, and what it promises.
use Rattle.std.proofs.Common.{◌<◌, subst, sym}
use Rattle.mark_core.proofs.Sets.{read_true}
use Rattle.mark_words.specs.Seats.{view, system_of}
use Rattle.mark_workers.proofs.Kept.{kept_refl}
use Rattle.mark_workers.proofs.item.claim.Goals as goal

pub returns-else-not-index-clause-kept : goal.returns-else-not-index-clause-kept
returns-else-not-index-clause-kept c = kept_refl (system_of c.args.table.now).n (view c.args.seat.now)

pub returns-else-not-index-clause-seen : goal.returns-else-not-index-clause-seen
returns-else-not-index-clause-seen c =
    c.requires.knows.seen c.args.item
    (read_true c.args.tasks.now.known.items c.args.item _
    (subst (λ k. c.args.item < k) (sym c.requires.knows.count) c.requires.item) c.index.ensures c.if-not-index.false)
