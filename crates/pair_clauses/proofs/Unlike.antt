-- The first of some elements that isn't like the one beside it, from a place on.
use Rattle.std.proofs.Common.{◌≡◌, ◌≤◌, ◌+◌, ℕ, false, is_some, List, [], ◌∷◌, Option, Some, None, length, drop}
use Rattle.std.proofs.Common.{slice_get, refl, sym, ap, subst, inl, inr, arith}
use Rattle.std.specs.List.{filter_map, zip}
use Rattle.pair_clauses.specs.Finding.{FirstUnlike}
use Rattle.pair_clauses.specs.Members.{with_name}
use Rattle.pair_clauses.specs.declared.place.Place.{Place}
use Rattle.pair_clauses.proofs.Zipped.{beyond, drop_none, drop_some, zip_done, zip_ends, zip_more}

module _ {A B : Type 0} (Alike : A → B → Type 0) (place : A → Place) where
  -- none is like this one
  pub unlike_here : (x : A) (xs : List A) (ys : List B) (k : ℕ) → ((y : B) → slice_get ys k ≡ Some y → Alike x y → ⊥)
      → FirstUnlike Alike place (x ∷ xs) (drop k ys) (Some (place x))
  unlike_here x xs ys k other = by (slice_get ys k) refl
    where
      by : (o : Option B) → slice_get ys k ≡ o → FirstUnlike Alike place (x ∷ xs) (drop k ys) (Some (place x))
      by None e = subst (λ (zs : List B). FirstUnlike Alike place (x ∷ xs) zs (Some (place x)))
          (sym (drop_none ys k e)) refl
      by (Some y) e =
          subst (λ (zs : List B). FirstUnlike Alike place (x ∷ xs) zs (Some (place x))) (sym (drop_some ys k y e))
          (inl (other y e, refl))

  -- this one is like the one beside it
  pub alike_on : (x : A) (xs : List A) (ys : List B) (k : ℕ) (y : B) → slice_get ys k ≡ Some y → Alike x y
      → (found : Option Place) → FirstUnlike Alike place xs (drop (k + 1) ys) found
      → FirstUnlike Alike place (x ∷ xs) (drop k ys) found
  alike_on x xs ys k y sy same found on =
      subst (λ (zs : List B). FirstUnlike Alike place (x ∷ xs) zs found) (sym (drop_some ys k y sy)) (by found on)
    where
      by : (o : Option Place) → FirstUnlike Alike place xs (drop (k + 1) ys) o
          → FirstUnlike Alike place (x ∷ xs) (y ∷ drop (k + 1) ys) o
      by None rest = (same, rest)
      by (Some p) rest = inr (same, rest)

-- elements that have a name, from a place on
abbrev pub named_from : {A : Type 0} → List A → List (Option (List ℕ)) → ℕ → List (A × List ℕ)
named_from xs new i = filter_map with_name (zip (drop i xs) (drop i new))

module _ {A : Type 0} (xs : List A) (new : List (Option (List ℕ))) (i : ℕ) where
  -- the one here has no name
  pub unnamed_on : (x : A) → slice_get xs i ≡ Some x → slice_get new i ≡ Some None
      → named_from xs new (i + 1) ≡ named_from xs new i
  unnamed_on x sx sn = sym (ap (filter_map with_name) (zip_more xs new i x None sx sn))

  -- the one here has a name
  pub named_here : (x : A) (name : List ℕ) → slice_get xs i ≡ Some x → slice_get new i ≡ Some (Some name)
      → (x, name) ∷ named_from xs new (i + 1) ≡ named_from xs new i
  named_here x name sx sn = sym (ap (filter_map with_name) (zip_more xs new i x (Some name) sx sn))

  -- none is left, for want of elements or of names
  pub named_done : length xs ≤ i → [] ≡ named_from xs new i
  named_done all = sym (ap (filter_map with_name) (zip_done xs new i (beyond xs i all)))

  pub named_ends : slice_get new i ≡ None → [] ≡ named_from xs new i
  named_ends none = sym (ap (filter_map with_name) (zip_ends xs new i none))

module _ {A B : Type 0} (Alike : A × List ℕ → B → Type 0) (place : A × List ℕ → Place) (xs : List A)
    (new : List (Option (List ℕ))) (ys : List B) where
  -- what is found behind this place is found of all
  abbrev pub FoundBehind : ℕ → ℕ → Type 0
  FoundBehind i k = (found : Option Place) → FirstUnlike Alike place (named_from xs new i) (drop k ys) found
      → FirstUnlike Alike place (filter_map with_name (zip xs new)) ys found

  module _ (i k : ℕ) (left : FoundBehind i k) where
    pub found_unnamed : (x : A) → slice_get xs i ≡ Some x → slice_get new i ≡ Some None → FoundBehind (i + 1) k
    found_unnamed x sx sn = λ found rest. left found
        (subst (λ (zs : List (A × List ℕ)). FirstUnlike Alike place zs (drop k ys) found)
        (unnamed_on xs new i x sx sn) rest)

    pub found_alike : (x : A) (name : List ℕ) (y : B) → slice_get xs i ≡ Some x → slice_get new i ≡ Some (Some name)
        → slice_get ys k ≡ Some y → Alike (x, name) y → FoundBehind (i + 1) (k + 1)
    found_alike x name y sx sn sy same = λ found rest. left found
        (subst (λ (zs : List (A × List ℕ)). FirstUnlike Alike place zs (drop k ys) found)
        (named_here xs new i x name sx sn)
        (alike_on Alike place (x, name) (named_from xs new (i + 1)) ys k y sy same found rest))

    pub found_unlike : (x : A) (name : List ℕ) → slice_get xs i ≡ Some x → slice_get new i ≡ Some (Some name)
        → ((y : B) → slice_get ys k ≡ Some y → Alike (x, name) y → ⊥)
        → FirstUnlike Alike place (filter_map with_name (zip xs new)) ys (Some (place (x, name)))
    found_unlike x name sx sn other = left (Some (place (x, name)))
        (subst (λ (zs : List (A × List ℕ)). FirstUnlike Alike place zs (drop k ys) (Some (place (x, name))))
        (named_here xs new i x name sx sn) (unlike_here Alike place (x, name) (named_from xs new (i + 1)) ys k other))

    pub found_none : [] ≡ named_from xs new i → FirstUnlike Alike place (filter_map with_name (zip xs new)) ys None
    found_none e = left None
        (subst (λ (zs : List (A × List ℕ)). FirstUnlike Alike place zs (drop k ys) None) e refl)

-- how many have names: one more here, or none
pub counted_here : {A : Type 0} (xs : List A) (new : List (Option (List ℕ))) (i k n : ℕ) (x : A) (name : List ℕ)
    → slice_get xs i ≡ Some x → slice_get new i ≡ Some (Some name) → k + length (named_from xs new i) ≡ n
    → (k + 1) + length (named_from xs new (i + 1)) ≡ n
counted_here xs new i k n x name sx sn all =
    let one = ap length (named_here xs new i x name sx sn) in
    omega (arith, one, all)

pub counted_on : {A : Type 0} (xs : List A) (new : List (Option (List ℕ))) (i k n : ℕ) (x : A)
    → slice_get xs i ≡ Some x → slice_get new i ≡ Some None → k + length (named_from xs new i) ≡ n
    → k + length (named_from xs new (i + 1)) ≡ n
counted_on xs new i k n x sx sn all =
    let one = ap length (unnamed_on xs new i x sx sn) in
    omega (arith, one, all)

pub counted_all : {A : Type 0} (xs : List A) (new : List (Option (List ℕ))) (i k n : ℕ) → [] ≡ named_from xs new i
    → k + length (named_from xs new i) ≡ n → k ≡ n
counted_all xs new i k n e all = let none = ap length e in omega (arith, none, all)

pub none_there : {A : Type 0} (o : Option A) → is_some o ≡ false → o ≡ None
none_there None h = refl
none_there (Some x) h = absurd cc
