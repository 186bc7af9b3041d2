-- A search through lines that are made of a list finds nothing, where each line fits those before it.
use Rattle.std.proofs.Common.{◌≡◌, ℕ, suc, ◌+◌, Bool, true, false, cond, List, [], ◌∷◌, ◌++◌, map}
use Rattle.std.proofs.Common.{Option, None, get_or, subst, arith}
use Rattle.std.specs.List.{AllByRecursion, AllPairs, enumerate_from, filter}
use Rattle.std.proofs.lemmas.List.{map-append}
use Rattle.std.proofs.lemmas.Option.{get_or_from_slice_get, slice_get_within}
use Rattle.jv_base.proofs.Lists.{all_at, all_from}
use Rattle.pair_laws.proofs.NamedForm.Picked.{all_picked_at}
use Rattle.member_shrink.specs.Shrunk.{chosen, is_marked}
use Rattle.pair_clauses.specs.declared.place.Place.{Place}

-- each of a list differs from those behind it
abbrev pub Differ : {X : Type 0} → (X → X → Type 0) → List X → Type 0
Differ R [] = Unit {0}
Differ R (x ∷ xs) = AllByRecursion (R x) xs × Differ R xs

pub all_more : {X : Type 0} (P : X → Type 0) (xs : List X) (x : X) → AllByRecursion P xs → P x
    → AllByRecursion P (xs ++ x ∷ [])
all_more P [] x all h = (h, tt)
all_more P (y ∷ xs) x all h = (all.0, all_more P xs x all.1 h)

-- each of these differs from those before and from one more
each_more : {X : Type 0} (R : X → X → Type 0) (before : List X) (x : X) (xs : List X)
    → AllByRecursion (λ y. AllByRecursion (λ b. R b y) before) xs → AllByRecursion (R x) xs
    → AllByRecursion (λ y. AllByRecursion (λ b. R b y) (before ++ x ∷ [])) xs
each_more R before x [] all own = tt
each_more R before x (y ∷ xs) all own =
    (all_more (λ b. R b y) before x all.0 own.0, each_more R before x xs all.1 own.1)

module _ {X L : Type 0} (line : X → L) (one : List L → L → Option Place) (search : List L → List L → Option Place)
    (nothing : (before : List L) → search before [] ≡ None)
    (step : (before : List L) (l : L) (ls : List L) → one before l ≡ None → search (before ++ l ∷ []) ls ≡ None
    → search before (l ∷ ls) ≡ None)
    (P : X → Type 0) (R : X → X → Type 0)
    (fits : (before : List X) (x : X) → AllByRecursion P before → P x → AllByRecursion (λ b. R b x) before
    → one (map line before) (line x) ≡ None) where
  from : (before xs : List X) → AllByRecursion P before → AllByRecursion P xs
      → AllByRecursion (λ y. AllByRecursion (λ b. R b y) before) xs → Differ R xs
      → search (map line before) (map line xs) ≡ None
  from before [] p q apart differ = nothing (map line before)
  from before (x ∷ xs) p q apart differ =
      step (map line before) (line x) (map line xs) (fits before x p q.0 apart.0)
      (subst (λ (ls : List L). search ls (map line xs) ≡ None) (map-append line before (x ∷ []))
      (from (before ++ x ∷ []) xs (all_more P before x p q.0) q.1 (each_more R before x xs apart.1 differ.0) differ.1))

  none_before : (xs : List X) → AllByRecursion (λ y. AllByRecursion (λ b. R b y) []) xs
  none_before [] = tt
  none_before (x ∷ xs) = (tt, none_before xs)

  pub none_found : (xs : List X) → AllByRecursion P xs → Differ R xs → search [] (map line xs) ≡ None
  none_found xs p differ = from [] xs tt p (none_before xs) differ

-- ---- elements that differ

-- pairs of places, as those that follow one another
pub differ_from : {X : Type 0} (R : X → X → Type 0) (xs : List X) → AllPairs R xs → Differ R xs
differ_from R [] pairs = tt
differ_from {X} R (x ∷ xs) pairs = (
  all_from (R x) xs
      (λ k y at.
      let low = slice_get_within xs k y at in
      let is : get_or xs k x ≡ y = get_or_from_slice_get xs k y x at in
      subst (R x) is (pairs 0 (suc k) x (omega arith) (omega (arith, low)))),
  differ_from R xs (λ i j d less within. pairs (suc i) (suc j) d (omega (arith, less)) (omega (arith, within))),
)

-- so do those that are chosen
pub differ_chosen : {X : Type 0} (R : X → X → Type 0) (marks : List Bool) (first : ℕ) (xs : List X) → Differ R xs
    → Differ R (chosen marks first xs)
differ_chosen R marks first [] differ = tt
differ_chosen {X} R marks first (x ∷ xs) differ =
    by (is_marked marks first) (differ_chosen R marks (first + 1) xs differ.1)
  where
    rest : List (ℕ × X)
    rest = filter (λ (e : ℕ × X). is_marked marks e.0) (enumerate_from (first + 1) xs)

    by : (t : Bool) → Differ R (map (λ (e : ℕ × X). e.1) rest)
        → Differ R (map (λ (e : ℕ × X). e.1) (cond t ((first, x) ∷ rest) rest))
    by false more = more
    by true more = (
      all_picked_at (is_marked marks) (λ (e : ℕ × X). e.1) (R x) (first + 1) xs
          (λ k y at passes. all_at (R x) xs k y differ.0 at),
      more,
    )
