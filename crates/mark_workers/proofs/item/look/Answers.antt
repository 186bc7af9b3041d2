-- Answers of `look`: what its calls ask for, and what it promises.
use Rattle.std.proofs.Common.{inr}
use Rattle.mark_words.specs.Seats.{view, system_of}
use Rattle.mark_workers.proofs.Kept.{kept_trans, may_kept, sides_below}
use Rattle.mark_workers.proofs.item.look.Goals as goal

pub sees-requires-clause-item : goal.sees-requires-clause-item
sees-requires-clause-item c =
    sides_below (system_of c.args.table.now).n c.args.id c.args.partner c.args.pair c.requires.below c.requires.sides

pub claim-requires-clause-due : goal.claim-requires-clause-due
claim-requires-clause-due c =
    may_kept (system_of c.args.table.now).n (system_of c.args.table.now) (view c.args.seat.now) (view c.sees.new.seat)
    c.args.id c.args.pair c.args.partner c.requires.busy c.sees.ensures.kept c.requires.pair c.requires.sides
    (c.sees.ensures.seen c.if-sees.true)

pub returns-then-sees-clause-kept : goal.returns-then-sees-clause-kept
returns-then-sees-clause-kept c =
    kept_trans (system_of c.args.table.now).n (view c.args.seat.now) (view c.sees.new.seat) (view c.claim.new.seat)
    c.sees.ensures.kept c.claim.ensures.kept

pub returns-else-sees-clause-seen : goal.returns-else-sees-clause-seen
returns-else-sees-clause-seen c = inr (c.sees.ensures.unseen c.if-sees.false c.args.id c.requires.busy.0)
