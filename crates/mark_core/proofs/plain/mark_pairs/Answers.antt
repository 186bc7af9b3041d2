-- Answers of `mark_pairs`: what its calls ask for, and what it promises.
use Rattle.std.proofs.Common.{◌≡◌, ℕ, ◌+◌, ◌-◌, ◌*◌, ◌/◌, ◌<◌, length, subst, sym, ◌∙◌, arith}
use Rattle.std.proofs.lemmas.List.{get_or_default}
use Rattle.std.proofs.lemmas.Option.{get_or_from_slice_get}
use Rattle.mark_core.specs.bodies.PairIndex.{pair_at, front_of, link_of}
use Rattle.mark_core.specs.Valid.{PairBelow}
use Rattle.mark_core.specs.bodies.Worklist.{IsDone}
use Rattle.mark_core.proofs.Growing.{grows_refl, grows_trans}
use Rattle.mark_core.proofs.Walking.{IsWalked, walk_first, walk_inside, walk_on, walk_smaller, walk_last}
use Rattle.mark_core.proofs.plain.mark_pairs.Goals as goal

pub loop-front-init : goal.loop-front-init
loop-front-init c =
    let lt : c.args.item < length c.args.index.now.fronts.items = subst (λ k. c.args.item < k)
    (sym c.requires.index.items) c.requires.item in
    let read : c.index-front.result.now ≡ front_of c.args.index.now c.args.item =
    c.index-front.ensures ∙ get_or_default c.args.index.now.fronts.items c.args.item _ 0 lt in (
      c.requires.sound,
      grows_refl c.args.work.now,
      subst (IsWalked c.args.sys.now c.args.work.now c.args.item) (sym read)
          (walk_first c.args.sys.now c.args.index.now c.args.work.now c.args.item c.requires.index),
    )

pub mark_pair-requires-clause-below : goal.mark_pair-requires-clause-below
mark_pair-requires-clause-below c =
    let pairs = c.args.sys.now.pairs in
    let k : ℕ = (c.loop-front.front - 1) / 2 in
    subst (PairBelow c.args.sys.now.n) (get_or_from_slice_get pairs k _ c.index.result.now c.index.ensures)
    (c.requires.valid.3 k c.index.result.now
    (walk_inside c.args.sys.now c.loop-front.work c.args.item c.loop-front.front c.loop-front.invariant.2
    c.loop-front-test.true))

pub mark_pair-requires-clause-listed : goal.mark_pair-requires-clause-listed
mark_pair-requires-clause-listed c =
    let k : ℕ = (c.loop-front.front - 1) / 2 in (
      k,
      walk_inside c.args.sys.now c.loop-front.work c.args.item c.loop-front.front c.loop-front.invariant.2
          c.loop-front-test.true,
      get_or_from_slice_get c.args.sys.now.pairs k _ c.index.result.now c.index.ensures,
    )

pub loop-front-smaller : goal.loop-front-smaller
loop-front-smaller c =
    let place : ℕ = c.loop-front.front - 1 in
    let some : 0 < c.loop-front.front = c.loop-front-test.true in
    let is : c.loop-front.front ≡ c.loop-front.front - 1 + 1 = omega (arith, some) in
    let lt : place < 2 * length c.args.sys.now.pairs = (c.loop-front.invariant.2.ends place is).0 in
    let read : c.index-front-in-loop-front.result.now ≡ link_of c.args.index.now place =
    c.index-front-in-loop-front.ensures
    ∙ get_or_default c.args.index.now.links.items place _ 0
    (subst (λ k. place < k) (sym c.requires.index.places) lt) in
    subst (λ k. k < c.loop-front.front) (sym read)
    (walk_smaller c.args.sys.now c.args.index.now place c.loop-front.front c.requires.index lt is)

pub loop-front-preserved : goal.loop-front-preserved
loop-front-preserved c =
    let place : ℕ = c.loop-front.front - 1 in
    let some : 0 < c.loop-front.front = c.loop-front-test.true in
    let is : c.loop-front.front ≡ c.loop-front.front - 1 + 1 = omega (arith, some) in
    let lt : place < 2 * length c.args.sys.now.pairs = (c.loop-front.invariant.2.ends place is).0 in
    let read : c.index-front-in-loop-front.result.now ≡ link_of c.args.index.now place =
    c.index-front-in-loop-front.ensures
    ∙ get_or_default c.args.index.now.links.items place _ 0
    (subst (λ k. place < k) (sym c.requires.index.places) lt) in
    let grows = c.in_ok-mark_pair.ensures.grows in
    let done : IsDone c.mark_pair.new.work (pair_at c.args.sys.now (place / 2)) =
    subst (IsDone c.mark_pair.new.work)
    (sym (get_or_from_slice_get c.args.sys.now.pairs
    (place / 2) _ _ c.index.ensures)) c.in_ok-mark_pair.ensures.done in (
      c.in_ok-mark_pair.ensures.sound,
      grows_trans c.args.work.now c.loop-front.work c.mark_pair.new.work c.loop-front.invariant.1 grows,
      subst (IsWalked c.args.sys.now c.mark_pair.new.work c.args.item) (sym read)
          (walk_on c.args.sys.now c.args.index.now c.loop-front.work c.mark_pair.new.work c.args.item
          c.loop-front.front place c.requires.index c.loop-front.invariant.2 is grows done),
    )

pub returns-clause-done : goal.returns-clause-done
returns-clause-done c = walk_last c.args.sys.now c.loop-front.work c.args.item c.loop-front.front
    c.loop-front.invariant.2 c.loop-front-test.false
