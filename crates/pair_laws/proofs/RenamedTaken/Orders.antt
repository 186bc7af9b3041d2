-- A permutation moves each element to a place.
use Rattle.std.proofs.Common.{◌≡◌, ℕ, zero, suc, ◌<◌, ◌≤◌, Bool, true, false, List, [], ◌∷◌, length, get_or}
use Rattle.std.proofs.Common.{slice_get, Option, Some, None, refl, sym, ap, ◌∙◌, arith, IsPermutation, nat_lt, ltb-true}
use Rattle.std.proofs.Common.{ltb-false}
use Rattle.std.specs.List.{swap}
use Rattle.std.proofs.lemmas.Bool.Decides.{nat_tests}
use Rattle.std.proofs.lemmas.List.Edits.{length-swap}
use Rattle.std.proofs.lemmas.List.Sorted.{IsPermutation-keeps}
use Rattle.std.proofs.lemmas.Option.{get_or_from_slice_get, slice_get-get_or, slice_get_past}
use Rattle.indexmap.proofs.ReorderLemmas.{exchange, exchange-twice, exchange-within, get_or-swap}

-- each element of a list stands at its place in another one; back leads there and back
pub record IsReordered {A : Type 0} (place back : ℕ → ℕ) (xs ys : List A) : Type 0 where
  pub at : (n : ℕ) → slice_get ys (place n) ≡ slice_get xs n
  pub there : (n : ℕ) → back (place n) ≡ n
  pub from : (n : ℕ) → place (back n) ≡ n

none_within : {A : Type 0} (l : List A) (k : ℕ) → k < length l → slice_get l k ≡ None → ⊥
none_within [] k below e = omega (arith, below)
none_within (x ∷ l) zero below e = cc
none_within (x ∷ l) (suc k) below e = none_within l k (omega (arith, below)) e

past_both : (i j k n : ℕ) → i < n → j < n → n ≤ k → exchange i j k ≡ k
past_both i j k n a b over = grind (arith, nat_tests)

-- ---- one exchange

module _ {A : Type 0} (l : List A) (i j : ℕ) (a : i < length l) (b : j < length l) where
  within : (k : ℕ) (d : A) → k < length l → slice_get l k ≡ Some d
      → slice_get (swap l i j) (exchange i j k) ≡ slice_get l k
  within k d below at =
      let inside : exchange i j k < length (swap l i j) =
      rw (length-swap l i j) (exchange-within i j (length l) k a b below) in
      slice_get-get_or (swap l i j) (exchange i j k) d inside
      ∙ ap Some (get_or-swap l i j d a b (exchange i j k) ∙ ap (λ n. get_or l n d) (exchange-twice i j k)
      ∙ get_or_from_slice_get l k d d at)
      ∙ sym at

  some : (k : ℕ) (o : Option A) → k < length l → slice_get l k ≡ o
      → slice_get (swap l i j) (exchange i j k) ≡ slice_get l k
  some k None below e = absurd (none_within l k below e)
  some k (Some d) below e = within k d below e

  swapped_at : (k : ℕ) (t : Bool) → nat_lt k (length l) ≡ t
      → slice_get (swap l i j) (exchange i j k) ≡ slice_get l k
  swapped_at k true e = some k (slice_get l k) (ltb-true k (length l) e) refl
  swapped_at k false e =
      let over : length l ≤ k = ltb-false k (length l) e in
      ap (slice_get (swap l i j)) (past_both i j k (length l) a b over)
      ∙ slice_get_past (swap l i j) k (rw (length-swap l i j) over) ∙ sym (slice_get_past l k over)

-- ---- all of them

abbrev pub Places : {A : Type 0} → List A → List A → Type 0
Places xs ys = (place : ℕ → ℕ) × (back : ℕ → ℕ) × IsReordered place back xs ys

places_step : {A : Type 0} (xs l : List A) (i j : ℕ) → i < length l → j < length l → Places xs l
    → Places xs (swap l i j)
places_step xs l i j a b (place, back, h) = (
  λ n. exchange i j (place n),
  λ n. back (exchange i j n),
  record {
    at = λ n. swapped_at l i j a b (place n) (nat_lt (place n) (length l)) refl ∙ h.at n;
    there = λ n. ap back (exchange-twice i j (place n)) ∙ h.there n;
    from = λ n. ap (exchange i j) (h.from (exchange i j n)) ∙ exchange-twice i j n;
  },
)

pub places : {A : Type 0} (xs ys : List A) → IsPermutation xs ys → Places xs ys
places xs ys moved = IsPermutation-keeps xs (Places xs)
    (λ n. n, λ n. n, record { at = λ n. refl; there = λ n. refl; from = λ n. refl }) (places_step xs) ys moved
