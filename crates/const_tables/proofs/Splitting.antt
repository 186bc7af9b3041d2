-- Where a list of stretches is split, the last one before it says what a place has.
use Rattle.std.proofs.Common.{ℕ, zero, suc, ◌-◌, List, [], ◌∷◌, Option, Some, None, true}
use Rattle.std.proofs.Common.{false, ◌≡◌, ◌≢◌, ◌⊎◌, inl, inr, refl, sym, ap, ◌∙◌, arith}
use Rattle.std.specs.Prelude.{nat_eq, slice_get, if◌then◌else◌}
use Rattle.std.proofs.lemmas.Bool.Decides.{eqb_tells}
use Rattle.jv_base.proofs.Lists.{all_at}
use Rattle.const_tables.specs.declared.facts.Stretch.{Stretch}
use Rattle.const_tables.specs.Stretches.{IsOrdered, IsSplit, IsUpTo, first_before, first_by, first_in}
use Rattle.const_tables.specs.Stretches.{is_up_to, up_by}
use Rattle.const_tables.proofs.Ordering.{up_is, up_told, up_trans}

unlike : (n : ℕ) → nat_eq (suc n) 0 ≡ false
unlike n = by (eqb_tells (suc n) 0)
  where
    by : ((nat_eq (suc n) 0 ≡ true) × (suc n ≡ 0)) ⊎ ((nat_eq (suc n) 0 ≡ false) × (suc n ≢ 0))
        → nat_eq (suc n) 0 ≡ false
    by (inl q) = absurd (omega (arith, q.1))
    by (inr q) = q.0

module _ (slot at : ℕ) where
  -- the one before so many stretches begins up to the place, and the one behind doesn't
  abbrev Splits : List Stretch → ℕ → Type 0
  Splits xs zero = up_by (slice_get xs 0) slot at ≡ false
  Splits xs (suc n) = (up_by (slice_get xs n) slot at ≡ true)
      × (up_by (slice_get xs (suc n)) slot at ≡ false)

  abbrev said : Option ℕ → List Stretch → ℕ → Option ℕ
  said before xs zero = before
  said before xs (suc n) = first_by (slice_get xs n)

  splits : (xs : List Stretch) (n : ℕ) → IsSplit xs slot at n → Splits xs n
  splits xs zero h = h.1
  splits xs (suc n) (inl e, f) = absurd (omega (arith, e))
  splits xs (suc n) (inr e, f) =
      let same : suc n - 1 ≡ n = omega arith in
      (ap (λ k. up_by (slice_get xs k) slot at) (sym same) ∙ e, f)

  up_there : (xs : List Stretch) (n : ℕ) (x : Stretch) → IsOrdered (x ∷ xs)
      → up_by (slice_get xs n) slot at ≡ true → is_up_to x slot at ≡ true
  up_there xs n x o e = by (slice_get xs n) refl e
    where
      by : (y : Option Stretch) → slice_get xs n ≡ y → up_by y slot at ≡ true
          → is_up_to x slot at ≡ true
      by None q e = absurd cc
      by (Some y) q e =
          up_is x slot at
          (up_trans x.slot x.at y.slot y.at slot at
          (up_told x y.slot y.at (all_at (IsUpTo x) xs n y o.0 q)) (up_told y slot at e))

  one_up : (before : Option ℕ) (x : Stretch) (xs : List Stretch) → is_up_to x slot at ≡ true
      → first_in before (x ∷ xs) slot at ≡ first_in x.first xs slot at
  one_up before x xs e =
      ap (λ b. if b then first_in x.first xs slot at else before) e

  told_by : (before : Option ℕ) (xs : List Stretch) (n : ℕ) → IsOrdered xs → Splits xs n
      → first_in before xs slot at ≡ said before xs n
  told_by before [] zero o s = refl
  told_by before [] (suc n) o s = absurd (let no = s.0 in cc)
  told_by before (x ∷ xs) zero o s = ap (λ b. if b then first_in x.first xs slot at else before) s
  told_by before (x ∷ xs) (suc zero) o s =
      one_up before x xs s.0 ∙ told_by x.first xs zero o.1 s.1
  told_by before (x ∷ xs) (suc (suc n)) o s =
      one_up before x xs (up_there xs n x o s.0) ∙ told_by x.first xs (suc n) o.1 s

  pub split_tells : (xs : List Stretch) (n : ℕ) → IsOrdered xs → IsSplit xs slot at n
      → first_before xs n ≡ first_in None xs slot at
  split_tells xs n o s = by n ∙ sym (told_by None xs n o (splits xs n s))
    where
      by : (n : ℕ) → first_before xs n ≡ said None xs n
      by zero = refl
      by (suc n) =
          let same : suc n - 1 ≡ n = omega arith in
          ap (λ b. if b then None else first_by (slice_get xs (suc n - 1))) (unlike n)
          ∙ ap (λ k. first_by (slice_get xs k)) same
