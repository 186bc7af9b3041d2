-- Members that all have new names are as expected, where each is alike.
use Rattle.std.proofs.Common.{◌≡◌, ℕ, zero, suc, List, [], ◌∷◌, length, map, Option, Some, None, slice_get, refl, sym}
use Rattle.std.proofs.Common.{ap, subst, ◌∙◌, nat_lt, ◌||◌, Bool, true, false, arith}
use Rattle.std.specs.List.{cons_option, filter_map, zip}
use Rattle.std.specs.Option.{option_map}
use Rattle.std.proofs.lemmas.Bool.{ltb-true}
use Rattle.std.proofs.lemmas.Option.{same_Some}
use Rattle.pair_clauses.specs.Finding.{FirstUnlike}
use Rattle.pair_clauses.specs.Members.{with_name}
use Rattle.pair_clauses.specs.declared.place.Place.{Place}

module _ {A B : Type 0} (given : A → Option (List ℕ)) (new : A → List ℕ) (first : A → B) where
  abbrev AreGiven : List A → Type 0
  AreGiven xs = (k : ℕ) (x : A) → slice_get xs k ≡ Some x → given x ≡ Some (new x)

  abbrev expected : List A → List (A × List ℕ)
  expected xs = filter_map with_name (zip xs (map given xs))

  pub as_many : (xs : List A) → AreGiven xs → length (expected xs) ≡ length (map first xs)
  as_many [] told = refl
  as_many (x ∷ xs) told = by (given x) (told zero x refl) (as_many xs (λ k y at. told (suc k) y at))
    where
      by : (o : Option (List ℕ)) → o ≡ Some (new x) → length (expected xs) ≡ length (map first xs)
          → length (cons_option (option_map (λ name. (x, name)) o) (expected xs)) ≡ suc (length (map first xs))
      by None e rest = absurd cc
      by (Some name) e rest = ap suc rest

  module _ (Alike : A × List ℕ → B → Type 0) (place : A × List ℕ → Place)
      (alike : (x : A) → Alike (x, new x) (first x)) where
    pub none_unlike : (xs : List A) → AreGiven xs → FirstUnlike Alike place (expected xs) (map first xs) None
    none_unlike [] told = refl
    none_unlike (x ∷ xs) told = by (given x) (told zero x refl) (none_unlike xs (λ k y at. told (suc k) y at))
      where
        by : (o : Option (List ℕ)) → o ≡ Some (new x) → FirstUnlike Alike place (expected xs) (map first xs) None
            → FirstUnlike Alike place (cons_option (option_map (λ name. (x, name)) o) (expected xs))
            (first x ∷ map first xs) None
        by None e rest = absurd cc
        by (Some name) e rest =
            (subst (λ (t : List ℕ). Alike (x, t) (first x)) (sym (same_Some name (new x) e)) (alike x), rest)

-- ---- lists that are as long

not_below : (n : ℕ) → nat_lt n n ≡ false
not_below n = by (nat_lt n n) refl
  where
    by : (b : Bool) → nat_lt n n ≡ b → b ≡ false
    by true e = absurd (omega (arith, ltb-true n n e))
    by false e = refl

pub neither : (a b c d : ℕ) → a ≡ b → c ≡ d → (nat_lt a b || nat_lt c d) ≡ false
neither a b c d first second =
    ap (λ (n : ℕ). nat_lt a n || nat_lt c d) (sym first) ∙ ap (λ (t : Bool). t || nat_lt c d) (not_below a)
    ∙ ap (λ (n : ℕ). nat_lt c n) (sym second) ∙ not_below c
