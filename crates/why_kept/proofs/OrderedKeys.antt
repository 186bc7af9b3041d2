-- Keys in their order, and one more at its place.
use Rattle.std.proofs.Common.{◌≡◌, ◌⊎◌, ◌<◌, ℕ, List, [], ◌∷◌, ◌++◌, inl, inr, ⊎_elim, ◌∙◌, refl, sym, subst, ap, arith}
use Rattle.std.proofs.Common.{Ordering, Less, Equal, Greater, Bool, true, false, get_or, cond, nat_eq}
use Rattle.std.specs.BTreeSet.{insert_key}
use Rattle.std.specs.Cmp.{IsTotalOrder}
use Rattle.std.specs.List.{Contains}
use Rattle.std.specs.List.Sorted.{IsStrictlySortedBy}
use Rattle.std.specs.Ordering.{match_ordering, nat_cmp, ordering_index, ordering_reverse, ordering_then}
use Rattle.std.proofs.lemmas.Bool.{cases_lt, le-ltb, lt-ltb}
use Rattle.std.proofs.lemmas.Cmp.{nat_cmp_total, on_total, then_total}
use Rattle.std.proofs.lemmas.List.Elements.{All-contains, All-from_recursion, Contains-append_cases, Contains-append_left}
use Rattle.std.proofs.lemmas.List.Elements.{Contains-append_right, Contains-get_or, Contains-push_cases, recursion_from_All}
use Rattle.std.proofs.lemmas.Map.Keys.{sorted_head, sorted_tail}
use Rattle.std.proofs.lemmas.Map.Lookups.{exact_unsigned}
use Rattle.why_kept.specs.Steps.{key_cmp}

-- ---- the order

abbrev Key : Type 0
Key = ℕ × ℕ

pub key_total : IsTotalOrder key_cmp
key_total = then_total (on_total (λ (x : Key). x.0) nat_cmp_total) (on_total (λ (x : Key). x.1) nat_cmp_total)

both_equal : (a b : Ordering) → ordering_then a b ≡ Equal → (a ≡ Equal) × (b ≡ Equal)
both_equal Less b e = absurd (let i : 0 ≡ 1 = ap ordering_index e in omega (arith, i))
both_equal Equal b e = (refl, e)
both_equal Greater b e = absurd (let i : 2 ≡ 1 = ap ordering_index e in omega (arith, i))

key_exact : (x y : Key) → key_cmp x y ≡ Equal → x ≡ y
key_exact x y e =
    let both = both_equal (nat_cmp x.0 y.0) (nat_cmp x.1 y.1) e in
    let first : x.0 ≡ y.0 = exact_unsigned x.0 y.0 both.0 in
    let second : x.1 ≡ y.1 = exact_unsigned x.1 y.1 both.1 in
    λ i. (first i, second i)

-- a lower level stands before
pub lower_first : (x y : Key) → x.0 < y.0 → key_cmp x y ≡ Less
lower_first x y lt = ap (λ t. ordering_then (cond t Less (cond (nat_eq x.0 y.0) Equal Greater)) (nat_cmp x.1 y.1))
    (lt-ltb x.0 y.0 lt)

pub less_is : (a b : ℕ) → nat_cmp a b ≡ Less → a < b
less_is a b e = ⊎_elim (λ lt. lt)
    (λ le. absurd (not_less (nat_eq a b) (sym (ap (λ t. cond t Less (cond (nat_eq a b) Equal Greater)) (le-ltb a b le)) ∙ e)))
    (cases_lt a b)
  where
    not_less : (t : Bool) → cond t Equal Greater ≡ Less → ⊥
    not_less true f = (let i : 1 ≡ 0 = ap ordering_index f in omega (arith, i))
    not_less false f = (let i : 2 ≡ 0 = ap ordering_index f in omega (arith, i))

then_less : (a b : Ordering) → ordering_then a b ≡ Less → (a ≡ Less) ⊎ ((a ≡ Equal) × (b ≡ Less))
then_less Less b e = inl refl
then_less Equal b e = inr (refl, e)
then_less Greater b e = absurd (let i : 2 ≡ 0 = ap ordering_index e in omega (arith, i))

-- what stands before has a lower level, or the same
pub first_or_same : (x y : Key) → key_cmp x y ≡ Less → (x.0 < y.0) ⊎ ((x.0 ≡ y.0) × (nat_cmp x.1 y.1 ≡ Less))
first_or_same x y e = ⊎_elim (λ first. inl (less_is x.0 y.0 first)) (λ same. inr (exact_unsigned x.0 y.0 same.0, same.1))
    (then_less (nat_cmp x.0 y.0) (nat_cmp x.1 y.1) e)

-- ---- lists

pub at_head : (x : Key) (xs : List Key) → Contains (x ∷ xs) x
at_head x xs = (0, omega arith, refl)

pub at_tail : (x : Key) (xs : List Key) (y : Key) → Contains xs y → Contains (x ∷ xs) y
at_tail x xs y has = Contains-append_right (x ∷ []) xs y has

pub head_or_tail : (x : Key) (xs : List Key) (y : Key) → Contains (x ∷ xs) y → (x ≡ y) ⊎ Contains xs y
head_or_tail x xs y has =
    ⊎_elim
    (λ first. ⊎_elim (λ none. absurd (let lt : none.0 < 0 = none.1 in omega (arith, lt))) inl
    (Contains-push_cases [] x y first))
    inr
    (Contains-append_cases (x ∷ []) xs y has)

pub sorted_cons : (x : Key) (xs : List Key) → ((y : Key) → Contains xs y → key_cmp x y ≡ Less)
    → IsStrictlySortedBy key_cmp xs → IsStrictlySortedBy key_cmp (x ∷ xs)
unfolding IsStrictlySortedBy
sorted_cons x xs less sorted =
    (recursion_from_All (λ y. key_cmp x y ≡ Less) xs (λ k d lt. less (get_or xs k d) (Contains-get_or xs k d lt)), sorted)

pub sorted_nil : IsStrictlySortedBy key_cmp []
unfolding IsStrictlySortedBy
sorted_nil = tt

pub head_less : (x : Key) (xs : List Key) (y : Key) → IsStrictlySortedBy key_cmp (x ∷ xs) → Contains xs y
    → key_cmp x y ≡ Less
head_less x xs y sorted has =
    All-contains (λ z. key_cmp x z ≡ Less) xs y
    (All-from_recursion (λ z. key_cmp x z ≡ Less) xs (sorted_head key_cmp x xs sorted)) has

pub sorted_front : (xs ys : List Key) → IsStrictlySortedBy key_cmp (xs ++ ys) → IsStrictlySortedBy key_cmp xs
sorted_front [] ys sorted = sorted_nil
sorted_front (x ∷ xs) ys sorted =
    sorted_cons x xs (λ y has. head_less x (xs ++ ys) y sorted (Contains-append_left xs ys y has))
    (sorted_front xs ys (sorted_tail key_cmp x (xs ++ ys) sorted))

pub sorted_back : (xs ys : List Key) → IsStrictlySortedBy key_cmp (xs ++ ys) → IsStrictlySortedBy key_cmp ys
sorted_back [] ys sorted = sorted
sorted_back (x ∷ xs) ys sorted = sorted_back xs ys (sorted_tail key_cmp x (xs ++ ys) sorted)

pub sorted_across : (xs ys : List Key) (q r : Key) → IsStrictlySortedBy key_cmp (xs ++ ys) → Contains xs q
    → Contains ys r → key_cmp q r ≡ Less
sorted_across [] ys q r sorted (k, lt, is) there = absurd (omega (arith, lt))
sorted_across (x ∷ xs) ys q r sorted here there =
    ⊎_elim
    (λ same. subst (λ z. key_cmp z r ≡ Less) same
    (head_less x (xs ++ ys) r sorted (Contains-append_right xs ys r there)))
    (λ rest. sorted_across xs ys q r (sorted_tail key_cmp x (xs ++ ys) sorted) rest there)
    (head_or_tail x xs q here)

pub sorted_join : (xs ys : List Key) → IsStrictlySortedBy key_cmp xs → IsStrictlySortedBy key_cmp ys
    → ((q r : Key) → Contains xs q → Contains ys r → key_cmp q r ≡ Less) → IsStrictlySortedBy key_cmp (xs ++ ys)
sorted_join [] ys front back across = back
sorted_join (x ∷ xs) ys front back across =
    sorted_cons x (xs ++ ys)
    (λ y has. ⊎_elim (λ here. head_less x xs y front here) (λ there. across x y (at_head x xs) there)
    (Contains-append_cases xs ys y has))
    (sorted_join xs ys (sorted_tail key_cmp x xs front) back (λ q r here there. across q r (at_tail x xs q here) there))

-- ---- one more key

abbrev insert : List Key → Key → List Key
insert xs k = insert_key key_cmp xs k

abbrev by_order : Ordering → Key → Key → List Key → List Key
by_order r k x xs = match_ordering r (k ∷ x ∷ xs) (x ∷ xs) (x ∷ insert xs k)

pub insert_has : (xs : List Key) (k : Key) → Contains (insert xs k) k
insert_has [] k = at_head k []
insert_has (x ∷ xs) k = by (key_cmp k x) refl (insert_has xs k)
  where
    by : (r : Ordering) → key_cmp k x ≡ r → Contains (insert xs k) k → Contains (by_order r k x xs) k
    by Less e rest = at_head k (x ∷ xs)
    by Equal e rest = subst (Contains (x ∷ xs)) (sym (key_exact k x e)) (at_head x xs)
    by Greater e rest = at_tail x (insert xs k) k rest

pub insert_keeps : (xs : List Key) (k y : Key) → Contains xs y → Contains (insert xs k) y
insert_keeps [] k y (i, lt, is) = absurd (omega (arith, lt))
insert_keeps (x ∷ xs) k y has = by (key_cmp k x) (λ rest. insert_keeps xs k y rest)
  where
    by : (r : Ordering) → (Contains xs y → Contains (insert xs k) y) → Contains (by_order r k x xs) y
    by Less more = at_tail k (x ∷ xs) y has
    by Equal more = has
    by Greater more = ⊎_elim (λ same. subst (Contains (x ∷ insert xs k)) same (at_head x (insert xs k)))
        (λ rest. at_tail x (insert xs k) y (more rest)) (head_or_tail x xs y has)

pub insert_only : (xs : List Key) (k y : Key) → Contains (insert xs k) y → Contains xs y ⊎ (k ≡ y)
insert_only [] k y has = ⊎_elim inr inl (head_or_tail k [] y has)
insert_only (x ∷ xs) k y has = by (key_cmp k x) has (λ rest. insert_only xs k y rest)
  where
    by : (r : Ordering) → Contains (by_order r k x xs) y → (Contains (insert xs k) y → Contains xs y ⊎ (k ≡ y))
        → Contains (x ∷ xs) y ⊎ (k ≡ y)
    by Less there more = ⊎_elim inr inl (head_or_tail k (x ∷ xs) y there)
    by Equal there more = inl there
    by Greater there more = ⊎_elim (λ same. inl (subst (Contains (x ∷ xs)) same (at_head x xs)))
        (λ rest. ⊎_elim (λ old. inl (at_tail x xs y old)) inr (more rest))
        (head_or_tail x (insert xs k) y there)

pub insert_sorted : (xs : List Key) (k : Key) → IsStrictlySortedBy key_cmp xs → IsStrictlySortedBy key_cmp (insert xs k)
insert_sorted [] k sorted = sorted_cons k [] (λ y has. absurd (let lt : has.0 < 0 = has.1 in omega (arith, lt))) sorted_nil
insert_sorted (x ∷ xs) k sorted = by (key_cmp k x) refl (insert_sorted xs k (sorted_tail key_cmp x xs sorted))
  where
    by : (r : Ordering) → key_cmp k x ≡ r → IsStrictlySortedBy key_cmp (insert xs k)
        → IsStrictlySortedBy key_cmp (by_order r k x xs)
    by Less e rest = sorted_cons k (x ∷ xs)
        (λ y has. ⊎_elim (λ same. subst (λ z. key_cmp k z ≡ Less) same e)
        (λ behind. key_total.trans k x y e (head_less x xs y sorted behind)) (head_or_tail x xs y has)) sorted
    by Equal e rest = sorted
    by Greater e rest =
        let flipped : key_cmp x k ≡ Less = key_total.antisymm x k ∙ ap ordering_reverse e in
        sorted_cons x (insert xs k)
        (λ y has. ⊎_elim (λ old. head_less x xs y sorted old) (λ same. subst (λ z. key_cmp x z ≡ Less) same flipped)
        (insert_only xs k y has))
        rest
