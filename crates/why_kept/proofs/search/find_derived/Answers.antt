-- Answers of `find_derived`: what its calls ask for, and what it promises.
use Rattle.std.proofs.Common.{take_all, subst, take, arith, get_or}
use Rattle.std.specs.List.{All, Contains}
use Rattle.std.proofs.lemmas.List.Elements.{All-contains, All-more, All-get_or, All-weaker}
use Rattle.mark_core.specs.Valid.{PairBelow}
use Rattle.mark_core.specs.declared.system.Pair.{Pair}
use Rattle.why_kept.specs.bodies.Searching.{IsNearBy, IsNext}
use Rattle.why_kept.proofs.Growing.{grows_trans, near_by_grows, next_grows}
use Rattle.why_kept.proofs.search.find_derived.Goals as goal

abbrev none : Pair
none = record { one = 0; two = 0; derived = 0 }

pub find_by_pair-requires-clause-few : goal.find_by_pair-requires-clause-few
find_by_pair-requires-clause-few c =
    let same = c.loop-pair.invariant.grows.left in omega (arith, same, c.requires.few)

pub find_by_pair-requires-clause-below : goal.find_by_pair-requires-clause-below
find_by_pair-requires-clause-below c =
    All-contains (PairBelow c.args.sys.now.n) c.args.sys.now.pairs
    (get_or c.args.pairs.now c.loop-pair.pair-index none) c.requires.valid.3
    (All-get_or (Contains c.args.sys.now.pairs) c.args.pairs.now c.loop-pair.pair-index none c.loop-pair-test.true
    c.requires.listed)

pub find_by_pair-requires-clause-listed : goal.find_by_pair-requires-clause-listed
find_by_pair-requires-clause-listed c =
    All-get_or (Contains c.args.sys.now.pairs) c.args.pairs.now c.loop-pair.pair-index none c.loop-pair-test.true
    c.requires.listed

pub find_by_pair-requires-clause-next : goal.find_by_pair-requires-clause-next
find_by_pair-requires-clause-next c =
    next_grows c.args.sys.now c.args.search.now c.loop-pair.search c.args.level
    (get_or c.args.pairs.now c.loop-pair.pair-index none) c.loop-pair.invariant.grows
    (omega (arith, c.requires.few))
    (All-get_or (IsNext c.args.sys.now c.args.search.now c.args.level) c.args.pairs.now c.loop-pair.pair-index none
    c.loop-pair-test.true c.requires.next)

pub loop-pair-preserved : goal.loop-pair-preserved
loop-pair-preserved c =
    let grows = c.in_ok-find_by_pair.ensures.grows in
    let new = c.find_by_pair.new.search in record {
      sound = c.in_ok-find_by_pair.ensures.sound;
      grows = grows_trans c.args.sys.now c.args.search.now c.loop-pair.search new c.loop-pair.invariant.grows grows;
      near = All-more (IsNearBy c.args.sys.now new c.args.level) c.args.pairs.now
          c.loop-pair.pair-index none c.loop-pair-test.true
          (All-weaker (IsNearBy c.args.sys.now c.loop-pair.search c.args.level) (IsNearBy c.args.sys.now new c.args.level)
          (λ p near. near_by_grows c.args.sys.now c.loop-pair.search new c.args.level p grows
          c.in_ok-find_by_pair.ensures.sound (omega (arith, c.requires.few)) near)
          (take c.loop-pair.pair-index c.args.pairs.now) c.loop-pair.invariant.near)
          c.in_ok-find_by_pair.ensures.near;
    }

pub returns-clause-near : goal.returns-clause-near
returns-clause-near c =
    subst (All (IsNearBy c.args.sys.now c.loop-pair.search c.args.level))
    (take_all c.loop-pair.pair-index c.args.pairs.now
    (omega (arith, c.loop-pair-test.false))) c.loop-pair.invariant.near
