-- Answers of `hire`: what its calls ask for, and what it promises.
use Rattle.std.proofs.Common.{◌≡◌, ◌+◌, ℕ, [], ◌∷◌, ◌++◌, ap, arith, false, length, replicate, subst, sym, ◌∙◌}
use Rattle.std.specs.List.{All}
use Rattle.std.proofs.lemmas.List.{length_push}
use Rattle.std.proofs.lemmas.List.Elements.{All-push}
use Rattle.mark_words.specs.Seats.{IsNewcomer}
use Rattle.mark_workers.specs.Ready.{Hired}
use Rattle.mark_workers.proofs.Joining.{all_but_last, hired, of_last}
use Rattle.mark_workers.proofs.crew.hire.Goals as goal

pub loop-seat-preserved : goal.loop-seat-preserved
loop-seat-preserved c =
    let k : ℕ = c.args.workers + 1 in
    let rest = c.pop.new.self.items in
    let seat = c.in-Some.seat in
    let member = c.in_ok-new_member.field-0 in
    let before : All (IsNewcomer c.args.table.now k) (rest ++ seat ∷ []) =
    subst (All (IsNewcomer c.args.table.now k)) c.in-Some.ensures.items c.loop-seat.invariant.0 in
    let shorter : length c.loop-seat.seats.items ≡ length rest + 1 =
    ap length c.in-Some.ensures.items ∙ length_push rest seat in
    let longer : length c.push.new.self.items ≡ length c.loop-seat.crew.items + 1 =
    ap length c.in_ok-push.ensures.items ∙ length_push c.loop-seat.crew.items member in
    let number : length c.loop-seat.crew.items ≡ c.loop-seat.number = c.loop-seat.invariant.2 in
    let sum : length c.loop-seat.seats.items + length c.loop-seat.crew.items ≡ c.args.workers =
    c.loop-seat.invariant.3 in (
      all_but_last (IsNewcomer c.args.table.now k) rest seat before,
      subst (All (Hired c.args.table.now k)) (sym c.in_ok-push.ensures.items)
          (All-push (Hired c.args.table.now k) c.loop-seat.crew.items member c.loop-seat.invariant.1
          (hired c.args.table.now k seat member c.in_ok-new_member.ensures.seat
          (subst (λ k. member.tasks.known.items ≡ replicate k false) c.requires.items c.in_ok-new_member.ensures.known)
          (of_last (IsNewcomer c.args.table.now k) rest seat before))),
      omega (arith, longer, number),
      omega (arith, shorter, longer, sum),
    )
