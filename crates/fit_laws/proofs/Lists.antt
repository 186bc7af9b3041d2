-- Lists.
use Rattle.std.proofs.Common.{ℕ, zero, suc, List, [], ◌∷◌, Option, Some, Bool, true, false, ◌≡◌}
use Rattle.std.proofs.Common.{refl, sym, subst, slice_get, nat_eq, ⊎_elim, ◌<◌, arith}
use Rattle.std.specs.List.{list_all, list_any, find}
use Rattle.std.specs.Prelude.{cond}
use Rattle.std.specs.Cmp.Lexicographic.{pointwise}
use Rattle.std.proofs.lemmas.Bool.{and_parts, or_cases, eqb-true}

pub some_same : {A : Type 0} (x y : A) → Some x ≡ Some y → x ≡ y
some_same x y h = cc

-- what all pass one of them passes
pub all_pass : {A : Type 0} (p : A → Bool) (xs : List A) (k : ℕ) (x : A) → list_all p xs ≡ true
    → slice_get xs k ≡ Some x
    → p x ≡ true
all_pass p [] k x h e = absurd cc
all_pass p (y ∷ ys) zero x h e =
    subst (λ z. p z ≡ true) (some_same y x e) (and_parts (p y) (list_all p ys) h).0
all_pass p (y ∷ ys) (suc k) x h e = all_pass p ys k x (and_parts (p y) (list_all p ys) h).1 e

-- the same of a number that is in a list
pub all_pass_in : (p : ℕ → Bool) (xs : List ℕ) (n : ℕ) → list_all p xs ≡ true
    → list_any (nat_eq n) xs ≡ true → p n ≡ true
all_pass_in p [] n h e = absurd cc
all_pass_in p (y ∷ ys) n h e = ⊎_elim
    (λ s. subst (λ z. p z ≡ true) (sym (eqb-true n y s)) (and_parts (p y) (list_all p ys) h).0)
    (λ s. all_pass_in p ys n (and_parts (p y) (list_all p ys) h).1 s)
    (or_cases (nat_eq n y) (list_any (nat_eq n) ys) e)

-- what is found passes, and stands in the list
pub found_in : {A : Type 0} (p : A → Bool) (xs : List A) (x : A) → find p xs ≡ Some x
    → (k : ℕ) × (slice_get xs k ≡ Some x) × (p x ≡ true)
found_in p [] x h = absurd cc
found_in p (y ∷ ys) x h = by (p y) refl h (λ q. found_in p ys x q) where
  by : (b : Bool) → p y ≡ b → (let r : Option _ = cond b (Some y) (find p ys) in r) ≡ Some x
      → (find p ys ≡ Some x → (k : ℕ) × (slice_get ys k ≡ Some x) × (p x ≡ true))
      → (k : ℕ) × (slice_get (y ∷ ys) k ≡ Some x) × (p x ≡ true)
  by true t h later = (0, h, subst (λ z. p z ≡ true) (some_same y x h) t)
  by false t h later = let r = later h in (suc r.0, r.1, r.2)

-- lists that are related by a test, at a place
pub pointwise_at : {A : Type 0} (E : A → A → Bool) (xs ys : List A) (k : ℕ) (y : A)
    → pointwise E xs ys ≡ true
    → slice_get ys k ≡ Some y → (x : A) × (slice_get xs k ≡ Some x) × (E x y ≡ true)
pointwise_at E [] [] k y h e = absurd cc
pointwise_at E (x ∷ xs) [] k y h e = absurd cc
pointwise_at E [] (z ∷ ys) k y h e = absurd cc
pointwise_at E (x ∷ xs) (z ∷ ys) zero y h e = (
  x,
  refl,
  subst (λ w. E x w ≡ true) (some_same z y e)
      (and_parts (E x z) (pointwise E xs ys) h).0,
)
pointwise_at E (x ∷ xs) (z ∷ ys) (suc k) y h e =
    pointwise_at E xs ys k y (and_parts (E x z) (pointwise E xs ys) h).1 e

-- a test that fails
pub cond_false : (t p : Bool) → t ≡ false → cond t p false ≡ true → ⊥
cond_false true p e h = absurd cc
cond_false false p e h = cc

pub not_zero : (n : ℕ) → nat_eq n 0 ≡ false → 0 < n
not_zero zero e = absurd cc
not_zero (suc n) e = omega arith
