-- Answers of `round`: what its calls ask for, and what it promises.
use Rattle.std.proofs.Common.{◌≡◌, ℕ, true, false, Bool, ap, subst, sym}
use Rattle.mark_core.specs.declared.system.System.{System}
use Rattle.mark_words.specs.Seats.{view, system_of}
use Rattle.mark_workers.specs.Sweep.{Rests, Visited}
use Rattle.mark_workers.proofs.Rounds.{round_step}
use Rattle.mark_workers.proofs.sweep.round.Goals as goal
use Rattle.mark_workers.proofs.sweep.round.Goals.{then-visit, else-visit}

pub loop-id-preserved : goal.loop-id-preserved
loop-id-preserved c =
    let m : ℕ = (system_of c.args.table.now).n in
    let n : ℕ = c.args.sys.now.n in
    let same : m ≡ n = ap (λ (t : System). t.n) c.requires.fits.0 in
    let i = c.loop-id.invariant in
    let x : ℕ = c.loop-id.id in
    let u = view c.args.seat.now in
    let v = view c.loop-id.seat in
    let w = view c.visit.new.seat in
    elim c.if-visit.branch [
      | then-visit b ↦ (let r = round_step n x u v w c.loop-id.took true c.if-visit.took c.loop-id-test.true
          (subst (λ k. Visited k v x true w) same (subst (λ (k : Bool). Visited m v x k w) b.if-visit.true
          c.visit.ensures.visited))
          b.took-is i.2 i.3 i.4 in
          (c.visit.ensures.seat, subst (λ k. Rests k w) (sym same) r.0, r.1, r.2, r.3, c.visit.ensures.knows))
      | else-visit b ↦ (let r = round_step n x u v w c.loop-id.took false c.if-visit.took c.loop-id-test.true
          (subst (λ k. Visited k v x false w) same (subst (λ (k : Bool). Visited m v x k w) b.if-visit.false
          c.visit.ensures.visited))
          b.took-is i.2 i.3 i.4 in
          (c.visit.ensures.seat, subst (λ k. Rests k w) (sym same) r.0, r.1, r.2, r.3, c.visit.ensures.knows))
    ]
