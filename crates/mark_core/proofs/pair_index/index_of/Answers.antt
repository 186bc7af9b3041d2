-- Answers of `index_of`: what its calls ask for, and what it promises.
use Rattle.std.proofs.Common.{◌≡◌, ℕ, ◌+◌, ◌*◌, ◌<◌, List, length, get_or, subst, ap, arith}
use Rattle.mark_core.specs.declared.system.Pair.{Pair}
use Rattle.mark_core.specs.bodies.PairIndex.{pair_at, IsIndexOf, LinksNext}
use Rattle.mark_core.specs.Valid.{PairBelow}
use Rattle.mark_core.proofs.Linking.{first_place, second_place, index_after}
use Rattle.mark_core.proofs.pair_index.index_of.Goals as goal

pub loop-pair-preserved : goal.loop-pair-preserved
loop-pair-preserved c =
    let k : ℕ = c.loop-pair.pair-index in
    let pair : Pair = pair_at c.args.sys.now k in
    let lt : k < length c.args.sys.now.pairs = subst
    (λ (l : List Pair). k < length l) c.as_slice-pairs.ensures c.loop-pair-test.true in
    let read : get_or c.as_slice-pairs.result.now k (record { one = 0; two = 0; derived = 0 }) ≡ pair =
    ap (λ (l : List Pair). get_or l k (record { one = 0; two = 0; derived = 0 })) c.as_slice-pairs.ensures in
    let below : PairBelow c.args.sys.now.n pair = c.requires.3 k _ lt in
    let first : IsIndexOf c.args.sys.now (2 * k + 1) c.link.new.index =
    index_after c.args.sys.now (2 * k) pair.one c.loop-pair.index c.link.new.index c.loop-pair.invariant
    (first_place c.args.sys.now k) below.0
    (subst (λ (p : Pair). LinksNext c.loop-pair.index c.link.new.index p.one) read c.in_ok-link.ensures) in
    let second : IsIndexOf c.args.sys.now (2 * k + 1 + 1) c.link-in-loop-pair.new.index =
    index_after c.args.sys.now (2 * k + 1) pair.two c.link.new.index c.link-in-loop-pair.new.index first
    (second_place c.args.sys.now k) below.1
    (subst
    (λ (p : Pair). LinksNext c.link.new.index c.link-in-loop-pair.new.index p.two) read c.in_ok-link-2.ensures) in
    let count : 2 * k + 1 + 1 ≡ 2 * (k + 1) = omega arith in
    subst (λ m. IsIndexOf c.args.sys.now m c.link-in-loop-pair.new.index) count second

pub returns : goal.returns
returns c =
    let done : c.loop-pair.pair-index ≡ length c.args.sys.now.pairs =
    (let same : length c.as_slice-pairs.result.now ≡ length c.args.sys.now.pairs = ap length c.as_slice-pairs.ensures in
    omega (arith, same, c.loop-pair-test.false, c.loop-pair.auto.pair-index-end)) in
    subst (λ k. IsIndexOf c.args.sys.now (2 * k) c.loop-pair.index) done c.loop-pair.invariant
