-- Answers of `sources_of`: what its calls ask for, and what it promises.
use Rattle.std.proofs.Common.{◌≡◌, ◌<◌, List, length, get_or, replicate, ◌∙◌, sym, subst, ap, arith, rules, take_all}
use Rattle.std.specs.List.{find, range_with_len}
use Rattle.mark_core.specs.Valid.{PairBelow}
use Rattle.mark_core.specs.declared.system.Pair.{Pair}
use Rattle.why_kept.specs.Steps.{by_need, by_pair, follows_from, is_needed_by}
use Rattle.why_kept.specs.bodies.Noting.{AreNoted, by_needs, note_if, noted_at}
use Rattle.why_kept.specs.declared.reasons.By.TheVariants as by
use Rattle.why_kept.proofs.NotedItems.{needs_more, noted_first, pairs_more}
use Rattle.why_kept.proofs.sources.sources_of.Goals as goal

abbrev none : Pair
none = record { one = 0; two = 0; derived = 0 }

pub loop-item-init : goal.loop-item-init
loop-item-init c =
    let is : c.in_ok-sources.sources.items ≡ replicate c.args.sys.now.n by.Seed = search rules in
    noted_first c.args.sys.now.n c.in_ok-sources.sources.items is

pub loop-item-preserved : goal.loop-item-preserved
loop-item-preserved c =
    let item = c.loop-item.item in
    let noted = c.note_needs.ensures in record {
      count = noted.count;
      each = λ x lt.
          noted.each x lt
          ∙ (ap (note_if (is_needed_by c.args.sys.now c.args.levels.now x item) (by.Need item))
          (c.loop-item.invariant.each x lt) ∙ needs_more c.args.sys.now c.args.levels.now item x);
    }

pub loop-pair-init : goal.loop-pair-init
loop-pair-init c =
    let ended : c.loop-item.item ≡ c.args.sys.now.n = omega (arith, c.loop-item-test.false, c.loop-item.auto.item-end) in
    subst (λ m. AreNoted c.args.sys.now.n (by_needs c.args.sys.now c.args.levels.now m) c.loop-item.sources.items) ended
    c.loop-item.invariant

pub note_pair-requires-clause-pair : goal.note_pair-requires-clause-pair
note_pair-requires-clause-pair c =
    let k = c.loop-pair.pair-index in
    let lt : k < length c.args.sys.now.pairs = subst (λ (l : List Pair). k < length l) c.as_slice-pair-items.ensures
    c.loop-pair-test.true in
    subst (λ (l : List Pair). PairBelow c.args.sys.now.n (get_or l k none)) (sym c.as_slice-pair-items.ensures)
    (c.requires.valid.3 k none lt)

pub loop-pair-preserved : goal.loop-pair-preserved
loop-pair-preserved c =
    let k = c.loop-pair.pair-index in
    let lt : k < length c.args.sys.now.pairs = subst (λ (l : List Pair). k < length l) c.as_slice-pair-items.ensures
    c.loop-pair-test.true in
    let read = ap (λ (l : List Pair). get_or l k none) c.as_slice-pair-items.ensures in
    let noted = subst (λ (p : Pair). AreNoted c.args.sys.now.n
    (λ x. note_if (follows_from c.args.sys.now c.args.levels.now x p) (by.Pair p.one p.two)
    (noted_at c.loop-pair.sources.items x)) c.note_pair.new.sources.items) read c.note_pair.ensures in
    let p : Pair = get_or c.args.sys.now.pairs k none in record {
      count = noted.count;
      each = λ x within.
          noted.each x within
          ∙ (ap (note_if (follows_from c.args.sys.now c.args.levels.now x p) (by.Pair p.one p.two))
          (c.loop-pair.invariant.each x within) ∙ pairs_more c.args.sys.now c.args.levels.now k x none lt);
    }

pub returns : goal.returns
returns c =
    let same = ap length c.as_slice-pair-items.ensures in
    let all = take_all c.loop-pair.pair-index c.args.sys.now.pairs (omega (arith, same, c.loop-pair-test.false)) in record {
      count = c.loop-pair.invariant.count;
      each = λ x lt.
          c.loop-pair.invariant.each x lt
          ∙ ap (λ (l : List Pair). by_need
          (find (is_needed_by c.args.sys.now c.args.levels.now x) (range_with_len 0 c.args.sys.now.n))
          (by_pair (find (follows_from c.args.sys.now c.args.levels.now x) l))) all;
    }
