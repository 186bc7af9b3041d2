-- Elements no two of which are alike: one of them is found where it stands.
use Rattle.std.proofs.Common.{◌≡◌, ◌⊎◌, ◌<◌, ◌≤◌, inl, inr, ℕ, suc, Bool, true, false, cond, List, [], ◌∷◌, get_or}
use Rattle.std.proofs.Common.{Option, Some, None, slice_get, refl, sym, ap, subst, ◌∙◌, arith}
use Rattle.std.specs.Prelude.{AllPairs}
use Rattle.std.specs.List.{find}
use Rattle.std.proofs.lemmas.Bool.{cases_lt}
use Rattle.std.proofs.lemmas.Option.{get_or_from_slice_get, same_Some, slice_get_within}
use Rattle.jv_base.proofs.Lists.{all_at, none_passes}

-- ---- places

module _ {X : Type 0} (Same : X → X → Type 0) (back : (x y : X) → Same x y → Same y x) (xs : List X)
    (apart : AllPairs (λ x y. Same x y → ⊥) xs) where
  not_before : (n j : ℕ) (x y : X) → slice_get xs n ≡ Some x → slice_get xs j ≡ Some y → n < j → Same x y → ⊥
  not_before n j x y at there less same =
      let first : get_or xs n x ≡ x = get_or_from_slice_get xs n x x at in
      let second : get_or xs j x ≡ y = get_or_from_slice_get xs j y x there in
      apart n j x less (slice_get_within xs j y there)
      (subst (λ (a : X). Same a (get_or xs j x)) (sym first) (subst (λ (b : X). Same x b) (sym second) same))

  -- alike elements stand at one place
  pub one_place : (n j : ℕ) (x y : X) → slice_get xs n ≡ Some x → slice_get xs j ≡ Some y → Same x y → n ≡ j
  one_place n j x y at there same = by (cases_lt n j) (cases_lt j n)
    where
      by : (n < j) ⊎ (j ≤ n) → (j < n) ⊎ (n ≤ j) → n ≡ j
      by (inl less) other = absurd (not_before n j x y at there less same)
      by (inr more) (inl less) = absurd (not_before j n y x there at less (back x y same))
      by (inr more) (inr most) = omega (arith, more, most)

-- ---- searches

-- what is found stands somewhere and passes
pub find_where : {X : Type 0} (test : X → Bool) (xs : List X) (x : X) → find test xs ≡ Some x
    → (k : ℕ) × (slice_get xs k ≡ Some x) × (test x ≡ true)
find_where test [] x found = absurd cc
find_where {X} test (y ∷ xs) x found = by (test y) refl (find_where test xs x) found
  where
    later : (k : ℕ) × (slice_get xs k ≡ Some x) × (test x ≡ true)
        → (k : ℕ) × (slice_get (y ∷ xs) k ≡ Some x) × (test x ≡ true)
    later r = (suc r.0, r.1, r.2)

    by : (b : Bool) → test y ≡ b
        → (find test xs ≡ Some x → (k : ℕ) × (slice_get xs k ≡ Some x) × (test x ≡ true))
        → cond b (Some y) (find test xs) ≡ Some x
        → (k : ℕ) × (slice_get (y ∷ xs) k ≡ Some x) × (test x ≡ true)
    by true passes rest h = (0, h, subst (λ (z : X). test z ≡ true) (same_Some y x h) passes)
    by false fails rest h = later (rest h)

-- one that passes is found where no other does
pub found_one : {X : Type 0} (test : X → Bool) (xs : List X) (k : ℕ) (x : X) → slice_get xs k ≡ Some x → test x ≡ true
    → ((j : ℕ) (y : X) → slice_get xs j ≡ Some y → test y ≡ true → y ≡ x) → find test xs ≡ Some x
found_one {X} test xs k x at passes one = by (find test xs) refl
  where
    by : (o : Option X) → find test xs ≡ o → o ≡ Some x
    by None none = absurd (
        let wrong : false ≡ true = sym (all_at (λ (y : X). test y ≡ false) xs k x (none_passes test xs none) at) ∙ passes in
        cc)
    by (Some y) found = let w = find_where test xs y found in ap Some (one w.0 y w.1 w.2)
