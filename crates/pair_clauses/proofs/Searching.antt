-- One search behind another, and the first that is found of pairs from a place on.
use Rattle.std.proofs.Common.{◌≡◌, ◌+◌, ℕ, true, false, List, [], Option, Some, None, is_some, drop, slice_get, refl}
use Rattle.std.proofs.Common.{sym, subst, inl, inr}
use Rattle.std.specs.List.{zip}
use Rattle.pair_clauses.specs.Finding.{FirstOf, Then}
use Rattle.pair_clauses.specs.declared.place.Place.{Place}
use Rattle.pair_clauses.proofs.Zipped.{zip_more}

-- the first search finds it
pub then_found : (Finds Next : Option Place → Type 0) (o : Option Place) → is_some o ≡ true → Finds o
    → Then Finds Next o
then_found Finds Next None h f = absurd cc
then_found Finds Next (Some p) h f = inl f

-- the first search finds nothing
pub then_on : (Finds Next : Option Place → Type 0) → Finds None → (o : Option Place) → Next o → Then Finds Next o
then_on Finds Next none None n = (none, n)
then_on Finds Next none (Some p) n = inr (none, n)

module _ {A B : Type 0} (Finds : A × B → Option Place → Type 0) (xs : List A) (ys : List B) where
  -- what is found behind this place is found of all
  abbrev pub FoundFrom : ℕ → Type 0
  FoundFrom i = (found : Option Place) → FirstOf Finds (zip (drop i xs) (drop i ys)) found
      → FirstOf Finds (zip xs ys) found

  module _ (i : ℕ) (left : FoundFrom i) where
    pub from_done : [] ≡ zip (drop i xs) (drop i ys) → FirstOf Finds (zip xs ys) None
    from_done e = left None (subst (λ (zs : List (A × B)). FirstOf Finds zs None) e refl)

    module _ (x : A) (y : B) (sx : slice_get xs i ≡ Some x) (sy : slice_get ys i ≡ Some y) where
      pub from_here : (o : Option Place) → is_some o ≡ true → Finds (x, y) o → FirstOf Finds (zip xs ys) o
      from_here o some f = left o (subst (λ (zs : List (A × B)). FirstOf Finds zs o) (sym (zip_more xs ys i x y sx sy))
          (then_found (Finds (x, y)) (FirstOf Finds (zip (drop (i + 1) xs) (drop (i + 1) ys))) o some f))

      pub from_on : (o : Option Place) → is_some o ≡ false → Finds (x, y) o → FoundFrom (i + 1)
      from_on None h f = λ found rest. left found
          (subst (λ (zs : List (A × B)). FirstOf Finds zs found) (sym (zip_more xs ys i x y sx sy))
          (then_on (Finds (x, y)) (FirstOf Finds (zip (drop (i + 1) xs) (drop (i + 1) ys))) f found rest))
      from_on (Some p) h f = absurd cc
