-- Answers of `claim_needs`: what its calls ask for, and what it promises.
use Rattle.std.proofs.Common.{◌≡◌, ◌<◌, [], length, get_or, take, take_all, subst, sym, ◌∙◌, inl, inr, arith}
use Rattle.std.specs.List.{All, Contains}
use Rattle.std.proofs.lemmas.Option.{get_or_from_slice_get}
use Rattle.std.proofs.lemmas.List.Elements.{All-weaker, All-more, Contains-get_or}
use Rattle.mark_core.specs.declared.system.System.{System}
use Rattle.mark_core.specs.Marks.{needs_of}
use Rattle.mark_machine.specs.Machine.{May}
use Rattle.mark_words.specs.Seats.{view, system_of}
use Rattle.mark_workers.proofs.Kept.{kept_trans}
use Rattle.mark_workers.proofs.item.claim_needs.Goals as goal

pub claim-requires-clause-seat : goal.claim-requires-clause-seat
claim-requires-clause-seat c = c.loop-item.invariant.0

pub claim-requires-clause-free : goal.claim-requires-clause-free
claim-requires-clause-free c = c.loop-item.invariant.1.reserved ∙ c.requires.busy.1

pub claim-requires-clause-item : goal.claim-requires-clause-item
claim-requires-clause-item c =
    let e : c.as_slice-item-items.result.now ≡ needs_of c.args.sys.now c.args.id = c.as_slice-item-items.ensures
    ∙ sym (get_or_from_slice_get c.args.sys.now.needs c.args.id _ [] c.index.ensures) in
    let lt : c.args.id < length c.args.sys.now.needs = subst (λ k. c.args.id < k) (sym c.requires.valid.0)
    c.requires.id in
    let below = subst (All (λ x. x < c.args.sys.now.n)) (sym e) (c.requires.valid.2 c.args.id [] lt) in
    subst (λ (t : System). get_or c.as_slice-item-items.result.now c.loop-item.item-index 0 < t.n)
    (sym c.requires.system) (below c.loop-item.item-index 0 c.loop-item-test.true)

pub claim-requires-clause-due : goal.claim-requires-clause-due
claim-requires-clause-due c =
    let e : c.as_slice-item-items.result.now ≡ needs_of c.args.sys.now c.args.id = c.as_slice-item-items.ensures
    ∙ sym (get_or_from_slice_get c.args.sys.now.needs c.args.id _ [] c.index.ensures) in
    let i = c.loop-item.item-index in
    subst (λ (t : System). May t (view c.loop-item.seat) (get_or c.as_slice-item-items.result.now i 0))
    (sym c.requires.system)
    (inr (
      c.args.id,
      c.loop-item.invariant.1.hand
          ∙ c.requires.busy.0,
      inl (subst (λ l. Contains l (get_or c.as_slice-item-items.result.now i 0)) e
          (Contains-get_or c.as_slice-item-items.result.now i 0 c.loop-item-test.true)),
    ))

pub loop-item-preserved : goal.loop-item-preserved
loop-item-preserved c =
    let k = c.claim.ensures.kept in (
      c.claim.ensures.seat,
      kept_trans (system_of c.args.table.now).n (view c.args.seat.now) (view c.loop-item.seat)
          (view c.claim.new.seat) c.loop-item.invariant.1 k,
      All-more (Contains (view c.claim.new.seat).seen) c.as_slice-item-items.result.now c.loop-item.item-index 0
          c.loop-item-test.true
          (All-weaker (Contains (view c.loop-item.seat).seen) (Contains (view c.claim.new.seat).seen) k.seen
          (take c.loop-item.item-index c.as_slice-item-items.result.now) c.loop-item.invariant.2)
          c.claim.ensures.seen,
      c.claim.ensures.knows,
    )

pub returns-clause-seen : goal.returns-clause-seen
returns-clause-seen c =
    let e : c.as_slice-item-items.result.now ≡ needs_of c.args.sys.now c.args.id = c.as_slice-item-items.ensures
    ∙ sym (get_or_from_slice_get c.args.sys.now.needs c.args.id _ [] c.index.ensures) in
    subst (All (Contains (view c.loop-item.seat).seen)) (take_all c.loop-item.item-index
    c.as_slice-item-items.result.now (omega (arith, c.loop-item-test.false)) ∙ e) c.loop-item.invariant.2
