-- Answers of `look_pairs`: what its calls ask for, and what it promises.
use Rattle.std.proofs.Common.{◌≡◌, ℕ, ◌+◌, ◌-◌, ◌*◌, ◌/◌, ◌<◌, length, subst, sym, ◌∙◌, arith}
use Rattle.std.specs.List.{Contains}
use Rattle.std.proofs.lemmas.List.{get_or_default}
use Rattle.std.proofs.lemmas.Option.{get_or_from_slice_get}
use Rattle.mark_core.specs.bodies.PairIndex.{pair_at, front_of, link_of}
use Rattle.mark_core.specs.Valid.{PairBelow}
use Rattle.mark_core.specs.declared.system.System.{System}
use Rattle.mark_machine.specs.Machine.{PairSeen}
use Rattle.mark_words.specs.Seats.{view, system_of}
use Rattle.mark_workers.specs.Index.{core_index}
use Rattle.mark_workers.proofs.Kept.{kept_refl, kept_trans, busy_kept}
use Rattle.mark_workers.proofs.Places.{IsWalked, walk_first, walk_inside, walk_on, walk_smaller, walk_last}
use Rattle.mark_workers.proofs.item.look_pairs.Goals as goal

pub loop-front-init : goal.loop-front-init
loop-front-init c =
    let ix = c.requires.fits.2 in
    let lt : c.args.id < length c.args.index.now.fronts.items = subst (λ k. c.args.id < k) (sym ix.items)
    c.requires.id in
    let read : c.index-front.result.now ≡ front_of (core_index c.args.index.now) c.args.id =
    c.index-front.ensures ∙ get_or_default c.args.index.now.fronts.items c.args.id _ 0 lt in (
      c.requires.seat,
      kept_refl (system_of c.args.table.now).n (view c.args.seat.now),
      subst (IsWalked c.args.sys.now (view c.args.seat.now) c.args.id) (sym read)
          (walk_first c.args.sys.now c.args.index.now (view c.args.seat.now) c.args.id ix),
      c.requires.knows,
    )

pub look_pair-requires-clause-busy : goal.look_pair-requires-clause-busy
look_pair-requires-clause-busy c = busy_kept (system_of c.args.table.now).n (view c.args.seat.now)
    (view c.loop-front.seat)
    c.args.id c.loop-front.invariant.1 c.requires.busy

pub look_pair-requires-clause-pair : goal.look_pair-requires-clause-pair
look_pair-requires-clause-pair c =
    let k : ℕ = (c.loop-front.front - 1) / 2 in
    subst (λ (t : System). Contains t.pairs c.index.result.now) (sym c.requires.fits.0) (
      k,
      walk_inside c.args.sys.now (view c.loop-front.seat) c.args.id c.loop-front.front c.loop-front.invariant.2
          c.loop-front-test.true,
      get_or_from_slice_get c.args.sys.now.pairs k _ c.index.result.now c.index.ensures,
    )

pub look_pair-requires-clause-below : goal.look_pair-requires-clause-below
look_pair-requires-clause-below c =
    let pairs = c.args.sys.now.pairs in
    let k : ℕ = (c.loop-front.front - 1) / 2 in
    subst (λ (t : System). PairBelow t.n c.index.result.now) (sym c.requires.fits.0)
    (subst (PairBelow c.args.sys.now.n) (get_or_from_slice_get pairs k _ c.index.result.now c.index.ensures)
    (c.requires.fits.1.3 k c.index.result.now
    (walk_inside c.args.sys.now (view c.loop-front.seat) c.args.id c.loop-front.front c.loop-front.invariant.2
    c.loop-front-test.true)))

pub loop-front-smaller : goal.loop-front-smaller
loop-front-smaller c =
    let place : ℕ = c.loop-front.front - 1 in
    let some : 0 < c.loop-front.front = c.loop-front-test.true in
    let is : c.loop-front.front ≡ c.loop-front.front - 1 + 1 = omega (arith, some) in
    let lt : place < 2 * length c.args.sys.now.pairs = (c.loop-front.invariant.2.ends place is).0 in
    let read : c.index-front-in-loop-front.result.now ≡ link_of (core_index c.args.index.now) place =
    c.index-front-in-loop-front.ensures ∙ get_or_default c.args.index.now.links.items place _ 0
    (subst (λ k. place < k) (sym c.requires.fits.2.places) lt) in
    subst (λ k. k < c.loop-front.front) (sym read)
    (walk_smaller c.args.sys.now c.args.index.now place c.loop-front.front c.requires.fits.2 lt is)

pub loop-front-preserved : goal.loop-front-preserved
loop-front-preserved c =
    let n = (system_of c.args.table.now).n in
    let place : ℕ = c.loop-front.front - 1 in
    let some : 0 < c.loop-front.front = c.loop-front-test.true in
    let is : c.loop-front.front ≡ c.loop-front.front - 1 + 1 = omega (arith, some) in
    let lt : place < 2 * length c.args.sys.now.pairs = (c.loop-front.invariant.2.ends place is).0 in
    let read : c.index-front-in-loop-front.result.now ≡ link_of (core_index c.args.index.now) place =
    c.index-front-in-loop-front.ensures ∙ get_or_default c.args.index.now.links.items place _ 0
    (subst (λ k. place < k) (sym c.requires.fits.2.places) lt) in
    let kept = c.look_pair.ensures.kept in
    let old = view c.loop-front.seat in
    let new = view c.look_pair.new.seat in
    let seen : PairSeen new c.args.id (pair_at c.args.sys.now (place / 2)) = subst (PairSeen new c.args.id)
    (sym (get_or_from_slice_get c.args.sys.now.pairs (place / 2) _ _ c.index.ensures)) c.look_pair.ensures.seen in (
      c.look_pair.ensures.seat,
      kept_trans n (view c.args.seat.now) old new c.loop-front.invariant.1 kept,
      subst (IsWalked c.args.sys.now new c.args.id) (sym read)
          (walk_on n c.args.sys.now c.args.index.now old new c.args.id c.loop-front.front place c.requires.fits.2
          c.loop-front.invariant.2 is kept seen),
      c.look_pair.ensures.knows,
    )

pub returns-clause-seen : goal.returns-clause-seen
returns-clause-seen c = walk_last c.args.sys.now (view c.loop-front.seat) c.args.id c.loop-front.front
    c.loop-front.invariant.2 c.loop-front-test.false
