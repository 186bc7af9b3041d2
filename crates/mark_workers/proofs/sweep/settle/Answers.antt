-- Answers of `settle`: what its calls ask for, and what it promises.
use Rattle.std.proofs.Common.{◌≡◌, ℕ, Bool, true, ap, subst, sym, ◌∙◌}
use Rattle.mark_core.specs.declared.system.System.{System}
use Rattle.mark_machine.specs.declared.machine.View.{View}
use Rattle.mark_machine.specs.declared.machine.Event.TheVariants.{SeeIdle}
use Rattle.mark_machine.specs.Machine.{view_after}
use Rattle.mark_words.specs.Seats.{view, system_of}
use Rattle.mark_workers.specs.Sweep.{IsSwept}
use Rattle.mark_workers.proofs.Joining.{rests_idle}
use Rattle.mark_workers.proofs.Known.{knows_after, seen_idle}
use Rattle.mark_workers.proofs.Rounds.{swept_done}
use Rattle.mark_workers.proofs.sweep.settle.Goals as goal

pub sweep-requires-clause-rests : goal.sweep-requires-clause-rests
sweep-requires-clause-rests c = rests_idle (system_of c.args.table.now).n (view c.args.seat.now)
    (view c.idle.new.seat)
    c.requires.rests c.if-idle.ensures.event.1

pub sweep-requires-clause-knows : goal.sweep-requires-clause-knows
sweep-requires-clause-knows c =
    let v = view c.args.seat.now in
    knows_after (system_of c.args.table.now).n v (view_after v SeeIdle c.idle.result) (view c.idle.new.seat)
    c.args.tasks.now.known.items c.idle.ensures.event.1 (seen_idle v c.idle.result) c.requires.knows

pub returns-clause-quiet : goal.returns-clause-quiet
returns-clause-quiet c =
    let n : ℕ = (system_of c.args.table.now).n in
    let v = view c.sweep.new.seat in
    let rests = c.sweep.ensures.rests in
    let swept : IsSwept n v = subst (λ (t : System). IsSwept t.n v) (sym c.requires.fits.0) c.sweep.ensures.swept in
    let idle : c.idle-2.result ≡ true = c.idle-2.ensures.full rests.1 (swept_done n v rests.0 swept) in
    ap (λ (u : View). u.quiet) c.idle-2.ensures.event.1 ∙ ap (λ (b : Bool). (view_after v SeeIdle b).quiet) idle
