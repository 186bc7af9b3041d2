-- Where each item is marked, the marks are closed for the requirements of any rules.
use Rattle.std.proofs.Common.{◌≡◌, ◌<◌, ◌≤◌, ℕ, zero, suc, ◌+◌, Bool, true, false, List, [], ◌∷◌, take}
use Rattle.std.proofs.Common.{Some, slice_get, get_or, ap, arith}
use Rattle.std.specs.Prelude.{IsTrue}
use Rattle.std.specs.List.{All, AllByRecursion}
use Rattle.std.proofs.lemmas.List.{get_or-replicate}
use Rattle.std.proofs.lemmas.List.Elements.{All-from_recursion, recursion_from_All}
use Rattle.std.proofs.lemmas.List.Sums.{sum_by-cons}
use Rattle.mark_core.specs.Marks.{Closed, needs_of, set_of}
use Rattle.mark_core.specs.Valid.{Valid}
use Rattle.mark_core.specs.declared.system.Pair.{Pair}
use Rattle.class_model.specs.declared.class.Class.{Class}
use Rattle.class_pool.specs.Count.{item_count, items_of}
use Rattle.member_shrink.specs.Shrunk.{is_marked}
use Rattle.require_sys.specs.Requires.{requires}
use Rattle.require_sys.specs.declared.kept.KeptByRules.{KeptByRules}
use Rattle.pair_laws.specs.RenamedSame.Laws.{all_marks}

pub item_room : (cs : List Class) (n : ℕ) (c : Class) → slice_get cs n ≡ Some c
    → item_count (take n cs) + items_of c ≤ item_count cs
item_room [] n c e = absurd cc
item_room (d ∷ cs) zero c e =
    let same : d ≡ c = cc in
    let size = ap items_of same in
    let sum = sum_by-cons items_of d cs in
    omega (arith, size, sum)
item_room (d ∷ cs) (suc n) c e =
    let rest = item_room cs n c e in
    let sum = sum_by-cons items_of d cs in
    let front = sum_by-cons items_of d (take n cs) in
    omega (arith, rest, sum, front)

module _ (classes : List Class) where
  abbrev marks : List Bool
  marks = all_marks classes

  pub marked : (k : ℕ) → k < item_count classes → is_marked marks k ≡ true
  marked k low = get_or-replicate (item_count classes) k true false low

  below_marked : (xs : List ℕ) → AllByRecursion (λ x. x < item_count classes) xs
      → AllByRecursion (λ x. set_of marks x ≡ true) xs
  below_marked [] h = tt
  below_marked (x ∷ xs) h = (marked x h.0, below_marked xs h.1)

  pub closed_by : (rules : KeptByRules) → Valid (requires classes rules)
      → Closed (requires classes rules) (set_of marks)
  closed_by rules valid = record {
    seeds = All-from_recursion (λ x. IsTrue (set_of marks x)) (requires classes rules).seeds
        (below_marked (requires classes rules).seeds
        (recursion_from_All (λ x. x < item_count classes) (requires classes rules).seeds valid.1));
    needs = λ x h. All-from_recursion (λ y. IsTrue (set_of marks y)) (needs_of (requires classes rules) x)
        (below_marked (needs_of (requires classes rules) x) (needs_below (requires classes rules).needs x
        (recursion_from_All (λ xs. All (λ y. y < item_count classes) xs) (requires classes rules).needs valid.2)));
    pairs = All-from_recursion _ (requires classes rules).pairs (pairs_marked (requires classes rules).pairs
        (recursion_from_All _ (requires classes rules).pairs valid.3));
  }
    where
      needs_below : (l : List (List ℕ)) (x : ℕ)
          → AllByRecursion (λ xs. All (λ y. y < item_count classes) xs) l
          → AllByRecursion (λ y. y < item_count classes) (get_or l x [])
      needs_below [] x h = tt
      needs_below (xs ∷ l) zero h = recursion_from_All (λ y. y < item_count classes) xs h.0
      needs_below (xs ∷ l) (suc x) h = needs_below l x h.1

      pairs_marked : (ps : List Pair)
          → AllByRecursion (λ (q : Pair). (q.one < item_count classes) × (q.two < item_count classes)
          × (q.derived < item_count classes)) ps
          → AllByRecursion (λ (q : Pair). set_of marks q.one ≡ true → set_of marks q.two ≡ true
          → set_of marks q.derived ≡ true) ps
      pairs_marked [] h = tt
      pairs_marked (q ∷ ps) h = (λ one two. marked q.derived h.0.2, pairs_marked ps h.1)
