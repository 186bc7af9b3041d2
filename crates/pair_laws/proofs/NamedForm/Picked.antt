-- What holds of elements that pass a test of their number, by their places.
use Rattle.std.proofs.Common.{◌≡◌, ℕ, zero, suc, ◌+◌, ◌||◌, Bool, true, false, cond, List, [], ◌∷◌, map, Some}
use Rattle.std.proofs.Common.{slice_get, refl, sym, ap, subst, ◌∙◌, arith}
use Rattle.std.specs.List.{AllByRecursion, enumerate_from, filter}
use Rattle.std.proofs.lemmas.Bool.{or_right}
use Rattle.jv_base.specs.Names.{is_text}
use Rattle.jv_base.proofs.Equality.{text_Decides}
use Rattle.fresh_names.specs.Fresh.{is_taken}

module _ {A B : Type 0} (p : ℕ → Bool) (f : ℕ × A → B) where
  abbrev pub picked : ℕ → List A → List B
  picked s xs = map f (filter (λ (e : ℕ × A). p e.0) (enumerate_from s xs))

  -- what holds of each that passes holds of all of them
  pub all_picked_at : (Q : B → Type 0) (s : ℕ) (xs : List A)
      → ((k : ℕ) (x : A) → slice_get xs k ≡ Some x → p (s + k) ≡ true → Q (f (s + k, x)))
      → AllByRecursion Q (picked s xs)
  all_picked_at Q s [] each = tt
  all_picked_at Q s (x ∷ xs) each =
      by (p s) refl
      (all_picked_at Q (s + 1) xs (λ k y at passes.
      let next : s + suc k ≡ s + 1 + k = omega arith in
      subst (λ (i : ℕ). Q (f (i, y))) next (each (suc k) y at (ap p next ∙ passes))))
    where
      by : (t : Bool) → p s ≡ t → AllByRecursion Q (picked (s + 1) xs)
          → AllByRecursion Q (map f (cond t ((s, x) ∷ filter (λ (e : ℕ × A). p e.0) (enumerate_from (s + 1) xs))
          (filter (λ (e : ℕ × A). p e.0) (enumerate_from (s + 1) xs))))
      by true t rest =
          let start : s + 0 ≡ s = omega arith in
          (subst (λ (i : ℕ). Q (f (i, x))) start (each 0 x refl (ap p start ∙ t)), rest)
      by false t rest = rest

  module _ (name : B → List ℕ) where
    -- one that passes is among them by its name
    pub picked_name : (s : ℕ) (xs : List A) (k : ℕ) (x : A) → slice_get xs k ≡ Some x → p (s + k) ≡ true
        → is_taken (map name (picked s xs)) (name (f (s + k, x))) ≡ true
    picked_name s [] k x at passes = absurd cc
    picked_name s (y ∷ xs) zero x at passes =
        let start : s + 0 ≡ s = omega arith in
        let same : y ≡ x = cc in
        by (p s) (ap p (sym start) ∙ passes)
        ((text_Decides (name (f (s + 0, x))) (name (f (s, y)))).1
        (ap (λ (i : ℕ). name (f (i, x))) start ∙ ap (λ (z : A). name (f (s, z))) (sym same)))
      where
        by : (t : Bool) → t ≡ true → is_text (name (f (s + 0, x))) (name (f (s, y))) ≡ true
            → is_taken (map name (map f (cond t ((s, y) ∷ filter (λ (e : ℕ × A). p e.0) (enumerate_from (s + 1) xs))
            (filter (λ (e : ℕ × A). p e.0) (enumerate_from (s + 1) xs))))) (name (f (s + 0, x))) ≡ true
        by true t same =
            ap (λ (b : Bool). b || is_taken (map name (picked (s + 1) xs)) (name (f (s + 0, x)))) same
        by false t same = absurd cc
    picked_name s (y ∷ xs) (suc k) x at passes =
        let next : s + 1 + k ≡ s + suc k = omega arith in
        by (p s)
        (subst (λ (i : ℕ). is_taken (map name (picked (s + 1) xs)) (name (f (i, x))) ≡ true) next
        (picked_name (s + 1) xs k x at (ap p next ∙ passes)))
      where
        by : (t : Bool) → is_taken (map name (picked (s + 1) xs)) (name (f (s + suc k, x))) ≡ true
            → is_taken (map name (map f (cond t ((s, y) ∷ filter (λ (e : ℕ × A). p e.0) (enumerate_from (s + 1) xs))
            (filter (λ (e : ℕ × A). p e.0) (enumerate_from (s + 1) xs))))) (name (f (s + suc k, x))) ≡ true
        by true h = or_right (is_text (name (f (s + suc k, x))) (name (f (s, y))))
            (is_taken (map name (picked (s + 1) xs)) (name (f (s + suc k, x)))) h
        by false h = h
