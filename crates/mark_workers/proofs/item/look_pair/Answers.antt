-- Answers of `look_pair`: what its calls ask for, and what it promises.
use Rattle.std.proofs.Common.{subst, sym}
use Rattle.mark_words.specs.Seats.{MarkSeat, view, system_of}
use Rattle.mark_workers.specs.Work.{Kept}
use Rattle.mark_workers.proofs.Kept.{kept_refl, kept_trans}
use Rattle.mark_workers.proofs.item.look_pair.Goals as goal
use Rattle.mark_workers.proofs.item.look_pair.Goals.{then-pair-id, else-pair-id}

pub returns-then-pair-id-2-clause-kept : goal.returns-then-pair-id-2-clause-kept
returns-then-pair-id-2-clause-kept c =
    kept_trans (system_of c.args.table.now).n (view c.args.seat.now) (view c.if-pair-id.seat)
    (view c.look-then-pair-id-2.new.seat)
    (elim c.if-pair-id.branch [
      | then-pair-id w ↦ subst (λ (s : MarkSeat). Kept (system_of c.args.table.now).n (view c.args.seat.now)
          (view s)) (sym w.seat-is) w.look.ensures.kept
      | else-pair-id w ↦ subst (λ (s : MarkSeat). Kept (system_of c.args.table.now).n (view c.args.seat.now)
          (view s)) (sym w.seat-is) (kept_refl (system_of c.args.table.now).n (view c.args.seat.now))
    ])
    c.look-then-pair-id-2.ensures.kept

pub returns-else-pair-id-2-clause-kept : goal.returns-else-pair-id-2-clause-kept
returns-else-pair-id-2-clause-kept c =
    elim c.if-pair-id.branch [
      | then-pair-id w ↦ subst (λ (s : MarkSeat). Kept (system_of c.args.table.now).n (view c.args.seat.now)
          (view s)) (sym w.seat-is) w.look.ensures.kept
      | else-pair-id w ↦ subst (λ (s : MarkSeat). Kept (system_of c.args.table.now).n (view c.args.seat.now)
          (view s)) (sym w.seat-is) (kept_refl (system_of c.args.table.now).n (view c.args.seat.now))
    ]
