-- Elements whose numbers pass a test: which of them is found in a table, and how they stand beside all with new names.
use Rattle.std.proofs.Common.{◌≡◌, ℕ, zero, suc, ◌+◌, Bool, true, false, cond, List, [], ◌∷◌, length, map, Option, Some}
use Rattle.std.proofs.Common.{None, slice_get, refl, sym, ap, subst, ◌∙◌, arith}
use Rattle.std.specs.List.{cons_option, filter_map, zip}
use Rattle.std.specs.Map.{lookup}
use Rattle.std.specs.Option.{option_map, option_or}
use Rattle.std.proofs.lemmas.Option.{same_Some}
use Rattle.image_laws.proofs.ShrunkImage.Kept.{kept_of}
use Rattle.pair_clauses.specs.Finding.{FirstOf, FirstUnlike, first_place}
use Rattle.pair_clauses.specs.Members.{with_name}
use Rattle.pair_clauses.specs.declared.place.Place.{Place}

-- ---- tables

module _ {A B K V : Type 0} (p : ℕ → Bool) (f : ℕ → A → B) (entry : B → K × V) (test : K → Bool) (q : A → Bool)
    (same : (n : ℕ) (x : A) → test (entry (f n x)).0 ≡ q x) where
  -- what the table holds of those from a number on
  abbrev found : ℕ → List A → Option V
  found n xs = lookup test (map entry (kept_of p f n xs))

  -- where none has the key, none is found
  none_found : (n : ℕ) (xs : List A) → ((k : ℕ) (x : A) → slice_get xs k ≡ Some x → q x ≡ false) → found n xs ≡ None
  none_found n [] none = refl
  none_found n (x ∷ xs) none = by (p n) (none_found (n + 1) xs (λ k y at. none (suc k) y at))
    where
      by : (b : Bool) → found (n + 1) xs ≡ None
          → lookup test (map entry (cond b (f n x ∷ kept_of p f (n + 1) xs) (kept_of p f (n + 1) xs))) ≡ None
      by true r =
          ap (λ (t : Bool). cond t (Some (entry (f n x)).1) (found (n + 1) xs)) (same n x ∙ none 0 x refl) ∙ r
      by false r = r

  -- the only one with the key is found where its number passes
  pub one_found : (n : ℕ) (xs : List A) (k : ℕ) (x : A) → slice_get xs k ≡ Some x → q x ≡ true
      → ((j : ℕ) (y : A) → slice_get xs j ≡ Some y → q y ≡ true → j ≡ k)
      → found n xs ≡ cond (p (n + k)) (Some (entry (f (n + k) x)).1) None
  one_found n [] k x at passes only = absurd cc
  one_found n (y ∷ xs) zero x at passes only =
      by (p n) ∙ ap (λ (z : A). cond (p n) (Some (entry (f n z)).1) None) is
      ∙ ap (λ (i : ℕ). cond (p i) (Some (entry (f i x)).1) None) start
    where
      start : n ≡ n + zero
      start = omega arith

      is : y ≡ x
      is = cc

      other : (j : ℕ) (z : A) → slice_get xs j ≡ Some z → (b : Bool) → q z ≡ b → b ≡ false
      other j z there true e = absurd (let w = only (suc j) z there e in omega (arith, w))
      other j z there false e = refl

      by : (b : Bool) → lookup test (map entry (cond b (f n y ∷ kept_of p f (n + 1) xs) (kept_of p f (n + 1) xs)))
          ≡ cond b (Some (entry (f n y)).1) None
      by true = ap (λ (t : Bool). cond t (Some (entry (f n y)).1) (found (n + 1) xs)) (same n y ∙ ap q is ∙ passes)
      by false = none_found (n + 1) xs (λ j z there. other j z there (q z) refl)
  one_found n (y ∷ xs) (suc k) x at passes only =
      by (p n) ∙ one_found (n + 1) xs k x at passes (λ j z there e. let w = only (suc j) z there e in omega (arith, w))
      ∙ ap (λ (i : ℕ). cond (p i) (Some (entry (f i x)).1) None) next
    where
      next : n + 1 + k ≡ n + suc k
      next = omega arith

      fails : (b : Bool) → q y ≡ b → b ≡ false
      fails true e = absurd (let w = only 0 y refl e in omega (arith, w))
      fails false e = refl

      by : (b : Bool) → lookup test (map entry (cond b (f n y ∷ kept_of p f (n + 1) xs) (kept_of p f (n + 1) xs)))
          ≡ found (n + 1) xs
      by true = ap (λ (t : Bool). cond t (Some (entry (f n y)).1) (found (n + 1) xs)) (same n y ∙ fails (q y) refl)
      by false = refl

-- ---- elements with new names, beside what those that pass have become

module _ {A B C : Type 0} (p : ℕ → Bool) (given : A → Option (List ℕ)) (new : A → List ℕ) (first : A → B)
    (then : B → C) where
  -- a new name for each whose number passes
  abbrev pub AreGiven : ℕ → List A → Type 0
  AreGiven n xs = (k : ℕ) (x : A) → slice_get xs k ≡ Some x → given x ≡ cond (p (n + k)) (Some (new x)) None

  abbrev pub expected : List A → List (A × List ℕ)
  expected xs = filter_map with_name (zip xs (map given xs))

  abbrev pub become : ℕ → List A → List C
  become n xs = map then (map first (kept_of p (λ k x. x) n xs))

  -- one more, or not
  abbrev becomes_if : Bool → A → ℕ → List A → List C
  becomes_if b x n xs = map then (map first (cond b (x ∷ kept_of p (λ k x. x) n xs) (kept_of p (λ k x. x) n xs)))

  given_here : (n : ℕ) (x : A) (xs : List A) → AreGiven n (x ∷ xs) → given x ≡ cond (p n) (Some (new x)) None
  given_here n x xs told =
      let start : n + 0 ≡ n = omega arith in
      told 0 x refl ∙ ap (λ (i : ℕ). cond (p i) (Some (new x)) None) start

  given_behind : (n : ℕ) (x : A) (xs : List A) → AreGiven n (x ∷ xs) → AreGiven (n + 1) xs
  given_behind n x xs told k y at =
      let next : n + suc k ≡ n + 1 + k = omega arith in
      told (suc k) y at ∙ ap (λ (i : ℕ). cond (p i) (Some (new y)) None) next

  -- as many are expected as there are
  pub as_many : (n : ℕ) (xs : List A) → AreGiven n xs → length (expected xs) ≡ length (become n xs)
  as_many n [] told = refl
  as_many n (x ∷ xs) told =
      by (p n) (given x) (given_here n x xs told) (as_many (n + 1) xs (given_behind n x xs told))
    where
      by : (b : Bool) (o : Option (List ℕ)) → o ≡ cond b (Some (new x)) None
          → length (expected xs) ≡ length (become (n + 1) xs)
          → length (cons_option (option_map (λ name. (x, name)) o) (expected xs))
          ≡ length (becomes_if b x (n + 1) xs)
      by true None e r = absurd cc
      by true (Some name) e r = ap suc r
      by false None e r = r
      by false (Some name) e r = absurd cc

  module _ (Alike : A × List ℕ → C → Type 0) (place : A × List ℕ → Place)
      (alike : (x : A) → Alike (x, new x) (then (first x))) where
    -- and none is unlike
    pub none_unlike : (n : ℕ) (xs : List A) → AreGiven n xs
        → FirstUnlike Alike place (expected xs) (become n xs) None
    none_unlike n [] told = refl
    none_unlike n (x ∷ xs) told =
        by (p n) (given x) (given_here n x xs told) (none_unlike (n + 1) xs (given_behind n x xs told))
      where
        by : (b : Bool) (o : Option (List ℕ)) → o ≡ cond b (Some (new x)) None
            → FirstUnlike Alike place (expected xs) (become (n + 1) xs) None
            → FirstUnlike Alike place (cons_option (option_map (λ name. (x, name)) o) (expected xs))
            (becomes_if b x (n + 1) xs) None
        by true None e r = absurd cc
        by true (Some name) e r =
            (subst (λ (t : List ℕ). Alike (x, t) (then (first x))) (sym (same_Some name (new x) e)) (alike x), r)
        by false None e r = r
        by false (Some name) e r = absurd cc

  module _ (fault : (A × List ℕ) × C → Option Place) where
    -- and none is at fault with what it has become, where none that passes is
    pub none_at_fault : (n : ℕ) (xs : List A) → AreGiven n xs
        → ((k : ℕ) (x : A) → slice_get xs k ≡ Some x → p (n + k) ≡ true → fault ((x, new x), then (first x)) ≡ None)
        → first_place fault (zip (expected xs) (become n xs)) ≡ None
    none_at_fault n [] told none = refl
    none_at_fault n (x ∷ xs) told none =
        by (p n) refl (given x) (given_here n x xs told)
        (none_at_fault (n + 1) xs (given_behind n x xs told) (λ k y at passes. none (suc k) y at (ap p (next k) ∙ passes)))
      where
        start : n + 0 ≡ n
        start = omega arith

        next : (k : ℕ) → n + suc k ≡ n + 1 + k
        next k = omega arith

        rest : Option Place
        rest = first_place fault (zip (expected xs) (become (n + 1) xs))

        by : (b : Bool) → p n ≡ b → (o : Option (List ℕ)) → o ≡ cond b (Some (new x)) None
            → first_place fault (zip (expected xs) (become (n + 1) xs)) ≡ None
            → first_place fault (zip (cons_option (option_map (λ name. (x, name)) o) (expected xs))
            (becomes_if b x (n + 1) xs)) ≡ None
        by true h None e r = absurd cc
        by true h (Some name) e r =
            ap (λ (t : List ℕ). option_or (fault ((x, t), then (first x))) rest) (same_Some name (new x) e)
            ∙ ap (λ (o : Option Place). option_or o rest) (none 0 x refl (ap p start ∙ h)) ∙ r
        by false h None e r = r
        by false h (Some name) e r = absurd cc

-- ---- searches that find nothing

-- no element is at fault with what it is given
pub no_first : {A B : Type 0} (fault : A × B → Option Place) (g : A → B) (xs : List A)
    → ((k : ℕ) (x : A) → slice_get xs k ≡ Some x → fault (x, g x) ≡ None) → None ≡ first_place fault (zip xs (map g xs))
no_first fault g [] none = refl
no_first fault g (x ∷ xs) none =
    no_first fault g xs (λ k y at. none (suc k) y at)
    ∙ ap (λ (o : Option Place). option_or o (first_place fault (zip xs (map g xs)))) (sym (none 0 x refl))

-- and no search finds one
pub no_first_of : {A B : Type 0} (Finds : A × B → Option Place → Type 0) (g : A → B) (xs : List A)
    → ((k : ℕ) (x : A) → slice_get xs k ≡ Some x → Finds (x, g x) None) → FirstOf Finds (zip xs (map g xs)) None
no_first_of Finds g [] none = refl
no_first_of Finds g (x ∷ xs) none = (none 0 x refl, no_first_of Finds g xs (λ k y at. none (suc k) y at))
