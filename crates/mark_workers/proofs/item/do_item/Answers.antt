-- Answers of `do_item`: what its calls ask for, and what it promises.
use Rattle.std.proofs.Common.{false, subst, sym, ◌∙◌}
use Rattle.std.specs.List.{Contains}
use Rattle.std.proofs.lemmas.List.Elements.{All-weaker}
use Rattle.mark_core.specs.Marks.{needs_of}
use Rattle.mark_core.specs.declared.system.System.{System}
use Rattle.mark_machine.specs.Machine.{Allowed, view_after}
use Rattle.mark_machine.specs.declared.machine.Event.TheVariants.{Finish}
use Rattle.mark_words.specs.Seats.{view, system_of}
use Rattle.mark_workers.specs.Work.{Did}
use Rattle.mark_workers.proofs.Kept.{kept_refl, kept_trans, busy_kept, did_all}
use Rattle.mark_workers.proofs.Known.{knows_after}
use Rattle.mark_workers.proofs.item.do_item.Goals as goal

pub look_pairs-requires-clause-busy : goal.look_pairs-requires-clause-busy
look_pairs-requires-clause-busy c = busy_kept (system_of c.args.table.now).n (view c.args.seat.now)
    (view c.claim_needs.new.seat) c.args.id c.claim_needs.ensures.kept c.requires.busy

pub finish-requires-clause-allowed : goal.finish-requires-clause-allowed
finish-requires-clause-allowed c =
    let u = view c.claim_needs.new.seat in
    let w = view c.look_pairs.new.seat in
    let a = c.claim_needs.ensures.kept in
    let b = c.look_pairs.ensures.kept in
    subst (λ (t : System). Allowed t w Finish) (sym c.requires.fits.0) (
      c.args.id,
      (
        b.hand ∙ a.hand ∙ c.requires.busy.0,
        b.reserved ∙ a.reserved ∙ c.requires.busy.1,
        All-weaker (Contains u.seen) (Contains w.seen) b.seen (needs_of c.args.sys.now c.args.id)
            c.claim_needs.ensures.seen,
        c.look_pairs.ensures.seen,
      ),
    )

pub returns-clause-did : goal.returns-clause-did
returns-clause-did c =
    let n = (system_of c.args.table.now).n in
    let v = view c.args.seat.now in
    let u = view c.claim_needs.new.seat in
    let w = view c.look_pairs.new.seat in
    let a = c.claim_needs.ensures.kept in
    let b = c.look_pairs.ensures.kept in
    subst (Did n v c.args.id) (sym c.finish.ensures.1)
    (did_all n v w c.args.id (b.hand ∙ a.hand ∙ c.requires.busy.0) (kept_trans n v u w a b) c.requires.busy.1)

pub returns-clause-knows : goal.returns-clause-knows
returns-clause-knows c =
    let n = (system_of c.args.table.now).n in
    let v = view c.args.seat.now in
    let u = view c.claim_needs.new.seat in
    let w = view c.look_pairs.new.seat in
    let a = c.claim_needs.ensures.kept in
    let b = c.look_pairs.ensures.kept in
    let hand = b.hand ∙ a.hand ∙ c.requires.busy.0 in
    let reserved = b.reserved ∙ a.reserved ∙ c.requires.busy.1 in
    knows_after n w (view_after w Finish false) (view c.finish.new.seat) c.look_pairs.new.tasks.known.items
    c.finish.ensures.1 (did_all n w w c.args.id hand (kept_refl n w) reserved).seen c.look_pairs.ensures.knows
