-- By what items with levels are kept.
use Rattle.std.proofs.Common.{◌≡◌, ◌+◌, ◌<◌, ◌≤◌, ◌==◌, max, ℕ, Bool, true, false, cond, List, [], ◌∷◌, ◌∙◌, refl, sym}
use Rattle.std.proofs.Common.{subst, ap, arith}
use Rattle.std.specs.Prelude.{Option, Some, None, nat_eq, unwrap_or, is_some}
use Rattle.std.specs.List.{All, Contains, find, list_any, range_with_len}
use Rattle.std.proofs.lemmas.Cmp.{nat_eq_equiv}
use Rattle.std.proofs.lemmas.Bool.{and_from, and_parts, eq-eqb, eqb-true, both_ways}
use Rattle.std.proofs.lemmas.List.Elements.{All-cons, All-contains, All-from_recursion, All-nil, Contains-append_right}
use Rattle.std.proofs.lemmas.List.FromFn.{get_or-range_with_len, length-range_with_len}
use Rattle.std.proofs.lemmas.Map.Views.{Contains-from_any, list_any-from_Contains}
use Rattle.jv_base.proofs.Lists.{none_passes}
use Rattle.mark_core.specs.Marks.{needs_of}
use Rattle.mark_core.specs.Valid.{PairBelow, Valid}
use Rattle.mark_core.specs.declared.system.Pair.{Pair}
use Rattle.mark_core.specs.declared.system.System.{System}
use Rattle.why_kept.specs.Derivations.{IsDerivation, Tree, depth_of, item_of, pair_of}
use Rattle.why_kept.specs.Derivations as tree
use Rattle.why_kept.specs.Levels.{AreLeast, HasLevel, IsCertified, IsPairNear, level_of, level_of_pair}
use Rattle.why_kept.specs.Steps.{by_need, by_of, by_pair, follows_from, is_needed_by, sources_of}
use Rattle.why_kept.specs.declared.reasons.By.{By}
use Rattle.why_kept.specs.declared.reasons.By.TheVariants as by
use Rattle.why_kept.proofs.Bounding.{level_below}

-- ---- what is found

-- what is found passes the test, and is of the list
abbrev Finds : {A : Type 0} → (A → Bool) → List A → A → Type 0
Finds p xs y = (p y ≡ true) × Contains xs y

found_by : {A : Type 0} (p : A → Bool) (x : A) (xs : List A) (y : A) → (find p xs ≡ Some y → Finds p xs y) → (b : Bool)
    → p x ≡ b → cond b (Some x) (find p xs) ≡ Some y → Finds p (x ∷ xs) y
found_by p x xs y rest true is e =
    let same : x ≡ y = ap (λ o. unwrap_or o x) e in
    (subst (λ z. p z ≡ true) same is, (0, omega arith, same))
found_by p x xs y rest false is e =
    let tail = rest e in (tail.0, Contains-append_right (x ∷ []) xs y tail.1)

found : {A : Type 0} (p : A → Bool) (xs : List A) (y : A) → find p xs ≡ Some y → Finds p xs y
found p [] y e = absurd (both_ways (is_some (Some y)) (sym (ap is_some e)) refl)
found p (x ∷ xs) y e = found_by p x xs y (found p xs y) (p x) refl e

in_range : (n y : ℕ) → Contains (range_with_len 0 n) y → y < n
in_range n y (k, lt, is) =
    let low : k < n = subst (λ m. k < m) (length-range_with_len 0 n) lt in
    let same = get_or-range_with_len 0 n k y low in
    omega (arith, low, same, is)

of_range : (n y : ℕ) → y < n → Contains (range_with_len 0 n) y
of_range n y lt = (
  y,
  subst (λ m. y < m) (sym (length-range_with_len 0 n)) lt,
  get_or-range_with_len 0 n y y lt ∙ (let e : 0 + y ≡ y = omega arith in e),
)

-- ---- reasons

-- it is a reason for the item to be kept: a seed has level 0, other items one more than what they are kept by
abbrev pub IsReason : System → List ℕ → ℕ → By → Type 0
IsReason sys levels x by.Seed = Contains sys.seeds x × (level_of sys levels x ≡ 0)
IsReason sys levels x (by.Need y) =
    (y < sys.n) × Contains (needs_of sys y) x × (level_of sys levels x ≡ level_of sys levels y + 1)
IsReason sys levels x (by.Pair y z) =
    Contains sys.pairs (pair_of y z x)
    × (level_of sys levels x ≡ max (level_of sys levels y) (level_of sys levels z) + 1)

module _ (sys : System) (levels : List ℕ) (valid : Valid sys) (certified : IsCertified sys levels)
    (least : AreLeast sys levels) where
  by_needed : (x y : ℕ) → find (is_needed_by sys levels x) (range_with_len 0 sys.n) ≡ Some y
      → IsReason sys levels x (by.Need y)
  by_needed x y e =
      let is = found (is_needed_by sys levels x) (range_with_len 0 sys.n) y e in
      let parts = and_parts (level_of sys levels x == level_of sys levels y + 1)
      (list_any (λ z. x == z) (needs_of sys y)) is.0 in (
        in_range sys.n y is.1,
        Contains-from_any {eq = nat_eq} eqb-true x (needs_of sys y) parts.1,
        eqb-true (level_of sys levels x) (level_of sys levels y + 1) parts.0,
      )

  by_paired : (x : ℕ) (p : Pair) → find (follows_from sys levels x) sys.pairs ≡ Some p
      → IsReason sys levels x (by.Pair p.one p.two)
  by_paired x p e =
      let is = found (follows_from sys levels x) sys.pairs p e in
      let parts = and_parts (p.derived == x) (level_of sys levels x == level_of_pair sys levels p + 1) is.0 in (
        subst (λ (z : ℕ). Contains sys.pairs (pair_of p.one p.two z)) (eqb-true p.derived x parts.0) is.1,
        eqb-true (level_of sys levels x) (level_of_pair sys levels p + 1) parts.1,
      )

  -- where neither an item that needs it nor a pair is found, the derivation of least depth is a seed alone
  seed_of : (x : ℕ) (t : Tree) → item_of t ≡ x → IsDerivation sys t → depth_of t ≡ level_of sys levels x
      → find (is_needed_by sys levels x) (range_with_len 0 sys.n) ≡ None → find (follows_from sys levels x) sys.pairs ≡ None
      → IsReason sys levels x by.Seed
  seed_of x (tree.seed y) same listed deep no_need no_pair =
      let is : Contains sys.seeds x = subst (Contains sys.seeds) same listed in
      (is, All-contains (λ z. level_of sys levels z ≡ 0) sys.seeds x certified.seeds is)
  seed_of x (tree.need y t) same (listed, derives) deep no_need no_pair =
      let z : ℕ = item_of t in
      let bound = least.bounds t derives in
      let z_in : z < sys.n = level_below sys levels z certified.count bound.0 in
      let needs : Contains (needs_of sys z) x = subst (Contains (needs_of sys z)) same listed in
      let near : level_of sys levels x ≤ level_of sys levels z + 1 =
      All-contains (λ w. level_of sys levels w ≤ level_of sys levels z + 1) (needs_of sys z) x
      (certified.needs z z_in bound.0) needs in
      let low = bound.1 in
      let is : level_of sys levels x ≡ level_of sys levels z + 1 = omega (arith, near, low, deep) in
      let passes : is_needed_by sys levels x z ≡ true = and_from (level_of sys levels x == level_of sys levels z + 1)
      (list_any (λ w. x == w) (needs_of sys z)) (eq-eqb (level_of sys levels x) (level_of sys levels z + 1) is)
      (list_any-from_Contains {eq = nat_eq} nat_eq_equiv x (needs_of sys z) needs) in
      let fails : is_needed_by sys levels x z ≡ false =
      All-contains (λ w. is_needed_by sys levels x w ≡ false) (range_with_len 0 sys.n) z
      (All-from_recursion (λ w. is_needed_by sys levels x w ≡ false) (range_with_len 0 sys.n)
      (none_passes (is_needed_by sys levels x) (range_with_len 0 sys.n) no_need)) (of_range sys.n z z_in) in
      absurd (both_ways (is_needed_by sys levels x z) fails passes)
  seed_of x (tree.pair y t u) same (listed, first, second) deep no_need no_pair =
      let one = least.bounds t first in
      let two = least.bounds u second in
      let p : Pair = pair_of (item_of t) (item_of u) x in
      let is_listed : Contains sys.pairs p = subst (λ (z : ℕ). Contains sys.pairs (pair_of (item_of t) (item_of u) z)) same
      listed in
      let near : level_of sys levels x ≤ level_of_pair sys levels p + 1 =
      All-contains (IsPairNear sys levels) sys.pairs p certified.pairs is_listed one.0 two.0 in
      let one_low = one.1 in
      let two_low = two.1 in
      let is : level_of sys levels x ≡ level_of_pair sys levels p + 1 = omega (arith, near, one_low, two_low, deep) in
      let passes : follows_from sys levels x p ≡ true = and_from (x == x)
      (level_of sys levels x == level_of_pair sys levels p + 1) (eq-eqb x x refl)
      (eq-eqb (level_of sys levels x) (level_of_pair sys levels p + 1) is) in
      let fails : follows_from sys levels x p ≡ false =
      All-contains (λ q. follows_from sys levels x q ≡ false) sys.pairs p
      (All-from_recursion (λ q. follows_from sys levels x q ≡ false) sys.pairs
      (none_passes (follows_from sys levels x) sys.pairs no_pair)) is_listed in
      absurd (both_ways (follows_from sys levels x p) fails passes)

  reason_by : (x : ℕ) → HasLevel sys levels x → (f : Option ℕ) (g : Option Pair)
      → find (is_needed_by sys levels x) (range_with_len 0 sys.n) ≡ f → find (follows_from sys levels x) sys.pairs ≡ g
      → IsReason sys levels x (by_need f (by_pair g))
  reason_by x has (Some y) g is also = by_needed x y is
  reason_by x has None (Some p) is also = by_paired x p also
  reason_by x has None None is also =
      let by = least.reached x has in seed_of x by.tree by.item by.derives by.deep is also

  pub reason_of : (x : ℕ) → HasLevel sys levels x → IsReason sys levels x (by_of sys levels x)
  reason_of x has =
      reason_by x has (find (is_needed_by sys levels x) (range_with_len 0 sys.n)) (find (follows_from sys levels x) sys.pairs)
      refl refl

  -- what an item is kept by are items of lower levels
  low_by : (x : ℕ) (b : By) → HasLevel sys levels x → IsReason sys levels x b
      → All (λ y. (y < sys.n) × (level_of sys levels y < level_of sys levels x)) (sources_of b)
  low_by x by.Seed has reason = All-nil (λ y. (y < sys.n) × (level_of sys levels y < level_of sys levels x))
  low_by x (by.Need y) has (lt, listed, is) =
      All-cons (λ y. (y < sys.n) × (level_of sys levels y < level_of sys levels x)) y [] (lt, omega (arith, is))
      (All-nil (λ y. (y < sys.n) × (level_of sys levels y < level_of sys levels x)))
  low_by x (by.Pair y z) has (listed, is) =
      let below : PairBelow sys.n (pair_of y z x) = All-contains (PairBelow sys.n) sys.pairs (pair_of y z x) valid.3 listed in
      All-cons (λ y. (y < sys.n) × (level_of sys levels y < level_of sys levels x)) y (z ∷ [])
      (below.0, omega (arith, is))
      (All-cons (λ y. (y < sys.n) × (level_of sys levels y < level_of sys levels x)) z [] (below.1, omega (arith, is))
      (All-nil (λ y. (y < sys.n) × (level_of sys levels y < level_of sys levels x))))

  pub sources_low : (x : ℕ) → HasLevel sys levels x
      → All (λ y. (y < sys.n) × (level_of sys levels y < level_of sys levels x)) (sources_of (by_of sys levels x))
  sources_low x has = low_by x (by_of sys levels x) has (reason_of x has)
