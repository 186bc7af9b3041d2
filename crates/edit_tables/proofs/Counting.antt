-- How many indices are left before one.
use Rattle.std.proofs.Common.{ℕ, zero, suc, ◌+◌, ◌<◌, ◌≤◌, List, [], ◌∷◌, Bool, true, false, ◌≡◌}
use Rattle.std.proofs.Common.{refl, ap, ◌∙◌, arith}
use Rattle.std.specs.Prelude.{length, slice_index_or, if◌then◌else◌}
use Rattle.code_edit.specs.Rewriting.{living, place}
use Rattle.edit_tables.specs.Places.{counts_from, lives_in, place_in}

added : (b : Bool) (n m : ℕ) → (if b then suc n else n) + m ≡ n + (if b then suc m else m)
added true n m = omega arith
added false n m = refl

-- what is left of a list, from an index on, is what is left of its rest
module _ (all : List Bool) where
  count_at : (i : ℕ) (bs : List Bool)
      → ((k : ℕ) → k < length bs → slice_index_or bs k true ≡ lives_in all (i + k)) → (n at : ℕ)
      → at ≤ length bs → slice_index_or (counts_from n bs) at 0 ≡ n + living (lives_in all) i at
  count_at i [] same n zero le = omega arith
  count_at i [] same n (suc at) le = absurd (omega (arith, le))
  count_at i (b ∷ bs) same n zero le = omega arith
  count_at i (b ∷ bs) same n (suc at) le =
      let here : b ≡ lives_in all i =
      same 0 (omega arith) ∙ (let e : i + 0 ≡ i = omega arith in ap (lives_in all) e) in
      let rest = count_at (suc i) bs
      (λ k lt. same (suc k) (omega (arith, lt))
      ∙ (let e : i + suc k ≡ suc i + k = omega arith in ap (lives_in all) e))
      (if b then suc n else n) at (omega (arith, le)) in
      rest ∙ added b n (living (lives_in all) (suc i) at)
      ∙ ap
      (λ c. n + (if c then suc (living (lives_in all) (suc i) at) else living (lives_in all)
      (suc i) at)) here

  pub place_is : (at : ℕ) → at ≤ length all
      → place_in (counts_from 0 all) at ≡ place (lives_in all) at
  place_is at le =
      count_at 0 all (λ k lt. let e : k ≡ 0 + k = omega arith in ap (lives_in all) e) 0 at le
      ∙ omega arith
