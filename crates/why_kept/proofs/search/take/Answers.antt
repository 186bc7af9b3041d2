-- Answers of `take`: what its calls ask for, and what it promises.
use Rattle.std.proofs.Common.{◌≡◌, [], subst, sym, ◌∙◌, arith, ◌<◌}
use Rattle.std.specs.List.{All, Contains}
use Rattle.std.proofs.lemmas.Option.{get_or_from_slice_get}
use Rattle.std.proofs.lemmas.List.{get_or_default}
use Rattle.std.proofs.lemmas.List.Elements.{All-weaker}
use Rattle.mark_core.specs.Marks.{needs_of}
use Rattle.why_kept.specs.Derivations.{IsDerivedAt}
use Rattle.why_kept.specs.bodies.ByItem.{HasItem, pairs_at}
use Rattle.why_kept.specs.bodies.Searching.{AreNear, IsNearBy, IsNext}
use Rattle.why_kept.proofs.Deriving.{needs_due}
use Rattle.why_kept.proofs.Growing.{grows_trans, near_grows}
use Rattle.why_kept.proofs.Rounds.{next_of, pairs_near}
use Rattle.why_kept.proofs.search.take.Goals as goal

pub find_all-requires-clause-due : goal.find_all-requires-clause-due
find_all-requires-clause-due c =
    let read : needs_of c.args.sys.now c.args.item
    ≡ c.as_slice.result.now = get_or_from_slice_get c.args.sys.now.needs c.args.item _ [] c.index.ensures
    ∙ sym c.as_slice.ensures in
    subst (All (λ x. IsDerivedAt c.args.sys.now x c.args.level)) read
    (needs_due c.args.sys.now c.args.search.now c.args.level c.args.item c.requires.sound c.requires.before
    (omega (arith, c.requires.few)))

pub find_derived-requires-clause-few : goal.find_derived-requires-clause-few
find_derived-requires-clause-few c =
    let same = c.in_ok-find_all.ensures.grows.left in omega (arith, same, c.requires.few)

pub find_derived-requires-clause-listed : goal.find_derived-requires-clause-listed
find_derived-requires-clause-listed c =
    let lt = subst (λ k. c.args.item < k) (sym c.requires.index.count) c.requires.item in
    let read : pairs_at c.args.pairs.now c.args.item ≡ c.as_slice-2.result.now =
    get_or_default c.args.pairs.now c.args.item [] c.index-pairs-item.result lt ∙ (sym c.index-pairs-item.is
    ∙ sym c.as_slice-2.ensures) in
    subst (All (Contains c.args.sys.now.pairs)) read
    (All-weaker (λ pair. Contains c.args.sys.now.pairs pair × HasItem c.args.item pair) (Contains c.args.sys.now.pairs)
    (λ p is. is.0) (pairs_at c.args.pairs.now c.args.item) (c.requires.index.listed c.args.item))

pub find_derived-requires-clause-next : goal.find_derived-requires-clause-next
find_derived-requires-clause-next c =
    let lt = subst (λ k. c.args.item < k) (sym c.requires.index.count) c.requires.item in
    let read : pairs_at c.args.pairs.now c.args.item ≡ c.as_slice-2.result.now =
    get_or_default c.args.pairs.now c.args.item [] c.index-pairs-item.result lt ∙ (sym c.index-pairs-item.is
    ∙ sym c.as_slice-2.ensures) in
    subst (All (IsNext c.args.sys.now c.find_all.new.search c.args.level)) read
    (next_of c.args.sys.now c.args.search.now c.find_all.new.search c.args.level c.args.item c.args.pairs.now
    c.requires.index c.requires.before (omega (arith, c.requires.few)) c.in_ok-find_all.ensures.grows)

pub returns-clause-grows : goal.returns-clause-grows
returns-clause-grows c =
    grows_trans c.args.sys.now c.args.search.now c.find_all.new.search c.find_derived.new.search
    c.in_ok-find_all.ensures.grows c.in_ok-find_derived.ensures.grows

pub returns-clause-needs : goal.returns-clause-needs
returns-clause-needs c =
    let read : needs_of c.args.sys.now c.args.item
    ≡ c.as_slice.result.now = get_or_from_slice_get c.args.sys.now.needs c.args.item _ [] c.index.ensures
    ∙ sym c.as_slice.ensures in
    near_grows c.args.sys.now c.find_all.new.search c.find_derived.new.search c.args.level
    (needs_of c.args.sys.now c.args.item) c.in_ok-find_derived.ensures.grows
    (subst (AreNear c.args.sys.now c.find_all.new.search c.args.level) (sym read) c.in_ok-find_all.ensures.near)

pub returns-clause-pairs : goal.returns-clause-pairs
returns-clause-pairs c =
    let lt = subst (λ k. c.args.item < k) (sym c.requires.index.count) c.requires.item in
    let read : pairs_at c.args.pairs.now c.args.item ≡ c.as_slice-2.result.now =
    get_or_default c.args.pairs.now c.args.item [] c.index-pairs-item.result lt ∙ (sym c.index-pairs-item.is
    ∙ sym c.as_slice-2.ensures) in
    pairs_near c.args.sys.now c.find_derived.new.search c.args.level c.args.item c.args.pairs.now c.requires.index
    (subst (All (IsNearBy c.args.sys.now c.find_derived.new.search c.args.level)) (sym read)
    c.in_ok-find_derived.ensures.near)
