-- The first that a search finds of elements from a place on.
use Rattle.std.proofs.Common.{◌≡◌, ◌+◌, ℕ, true, false, List, Option, Some, None, is_some, drop, slice_get}
use Rattle.std.proofs.Common.{refl, sym, subst}
use Rattle.pair_clauses.specs.Finding.{FirstOf}
use Rattle.pair_clauses.specs.declared.place.Place.{Place}
use Rattle.pair_clauses.proofs.Searching.{then_found, then_on}
use Rattle.pair_clauses.proofs.Zipped.{drop_none, drop_some}

module _ {A : Type 0} (Finds : A → Option Place → Type 0) (xs : List A) where
  -- what is found behind this place is found of all
  abbrev pub FoundFrom : ℕ → Type 0
  FoundFrom i = (found : Option Place) → FirstOf Finds (drop i xs) found → FirstOf Finds xs found

  module _ (i : ℕ) (left : FoundFrom i) where
    pub found_none : slice_get xs i ≡ None → FirstOf Finds xs None
    found_none end = left None (subst (λ (ys : List A). FirstOf Finds ys None) (sym (drop_none xs i end)) refl)

    module _ (x : A) (at : slice_get xs i ≡ Some x) where
      pub found_here : (o : Option Place) → is_some o ≡ true → Finds x o → FirstOf Finds xs o
      found_here o some f = left o (subst (λ (ys : List A). FirstOf Finds ys o) (sym (drop_some xs i x at))
          (then_found (Finds x) (FirstOf Finds (drop (i + 1) xs)) o some f))

      pub found_on : (o : Option Place) → is_some o ≡ false → Finds x o → FoundFrom (i + 1)
      found_on None none f = λ found rest. left found
          (subst (λ (ys : List A). FirstOf Finds ys found) (sym (drop_some xs i x at))
          (then_on (Finds x) (FirstOf Finds (drop (i + 1) xs)) f found rest))
      found_on (Some p) none f = absurd cc
