-- Answers of `pairs_by_item`: what its calls ask for, and what it promises.
use Rattle.std.proofs.Common.{◌<◌, List, length, get_or, sym, subst, ap, arith, take_all}
use Rattle.std.specs.List.{Contains}
use Rattle.mark_core.specs.Valid.{PairBelow}
use Rattle.mark_core.specs.declared.system.Pair.{Pair}
use Rattle.why_kept.specs.bodies.ByItem.{Adds, IsByItemOf, pairs_at}
use Rattle.why_kept.proofs.Listing.{by_item_after, by_item_first}
use Rattle.why_kept.proofs.by_item.pairs_by_item.Goals as goal

abbrev none : Pair
none = record { one = 0; two = 0; derived = 0 }

pub loop-pair-init : goal.loop-pair-init
loop-pair-init c =
    by_item_first c.args.sys.now c.in_ok-lists.lists.items c.in_ok-lists.ensures.count c.in_ok-lists.ensures.empty

pub add_pair-requires : goal.add_pair-requires
add_pair-requires c =
    let k = c.loop-pair.pair-index in
    let lt : k < length c.args.sys.now.pairs = subst (λ (l : List Pair). k < length l) c.as_slice-pair-items.ensures
    c.loop-pair-test.true in
    subst (λ (l : List Pair). PairBelow (length c.loop-pair.lists.items) (get_or l k none)) (sym c.as_slice-pair-items.ensures)
    (subst (λ n. PairBelow n (get_or c.args.sys.now.pairs k none)) (sym c.loop-pair.invariant.count)
    (c.requires.3 k none lt))

pub loop-pair-preserved : goal.loop-pair-preserved
loop-pair-preserved c =
    let k = c.loop-pair.pair-index in
    let lt : k < length c.args.sys.now.pairs = subst (λ (l : List Pair). k < length l) c.as_slice-pair-items.ensures
    c.loop-pair-test.true in
    let read = ap (λ (l : List Pair). get_or l k none) c.as_slice-pair-items.ensures in
    by_item_after c.args.sys.now k none c.loop-pair.lists.items c.add_pair.new.lists.items lt c.loop-pair.invariant
    (subst (λ p. Adds p c.loop-pair.lists.items c.add_pair.new.lists.items) read c.in_ok-add_pair.ensures.adds)
    (subst (λ (p : Pair). Contains (pairs_at c.add_pair.new.lists.items p.one) p) read c.in_ok-add_pair.ensures.one)
    (subst (λ (p : Pair). Contains (pairs_at c.add_pair.new.lists.items p.two) p) read c.in_ok-add_pair.ensures.two)

pub returns : goal.returns
returns c =
    let same = ap length c.as_slice-pair-items.ensures in
    subst (λ (l : List Pair). IsByItemOf c.args.sys.now l c.loop-pair.lists.items)
    (take_all c.loop-pair.pair-index c.args.sys.now.pairs (omega (arith, same, c.loop-pair-test.false)))
    c.loop-pair.invariant
