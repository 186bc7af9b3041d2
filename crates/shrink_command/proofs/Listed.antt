-- What holds of each element of a list, by what the list was made of.
use Rattle.std.proofs.Common.{◌≡◌, ℕ, suc, ◌+◌, ◌<◌, List, [], ◌∷◌, length}
use Rattle.std.proofs.Common.{slice_get, Option, Some, None, refl, subst, arith}
use Rattle.std.specs.Prelude.{IfSome}
use Rattle.std.specs.List.{All, cons_option, enumerate_from, filter_map, flat_map}
use Rattle.std.proofs.lemmas.List.Elements.{All-append, All-cons, All-nil}
use Rattle.std.proofs.lemmas.Option.{same_Some}
use Rattle.class_pool.specs.Resolution.{first}

module _ {Y : Type 0} (P : Y → Type 0) where
  pub put : (o : Option Y) (ys : List Y) → IfSome o P → All P ys → All P (cons_option o ys)
  put (Some y) ys this others = All-cons P y ys this others
  put None ys this others = others

  pub first_of : (ys : List Y) (y : Y) → first ys ≡ Some y → All P ys → P y
  first_of [] y is all = absurd cc
  first_of (z ∷ ys) y is all = subst P (same_Some z y is) (all 0 z (omega arith))

  -- what each element of a numbered list gives
  pub each_given : {X : Type 0} (h : ℕ × X → Option Y) (n : ℕ) (xs : List X)
      → ((i : ℕ) (x : X) → i < length xs → IfSome (h (n + i, x)) P)
      → All P (filter_map h (enumerate_from n xs))
  each_given h n [] each = All-nil P
  each_given h n (x ∷ xs) each =
      let here : n + 0 ≡ n = omega arith in
      let next : (i : ℕ) → n + suc i ≡ n + 1 + i = λ i. omega arith in
      put (h (n, x)) (filter_map h (enumerate_from (n + 1) xs))
      (subst (λ (k : ℕ). IfSome (h (k, x)) P) here (each 0 x (omega arith)))
      (each_given h (n + 1) xs
      (λ i y lt. subst (λ (k : ℕ). IfSome (h (k, y)) P) (next i) (each (suc i) y (omega (arith, lt)))))

  pub all_given : {X : Type 0} (f : ℕ × X → List Y) (n : ℕ) (xs : List X)
      → ((i : ℕ) (x : X) → slice_get xs i ≡ Some x → All P (f (n + i, x)))
      → All P (flat_map f (enumerate_from n xs))
  all_given f n [] each = All-nil P
  all_given f n (x ∷ xs) each =
      let here : n + 0 ≡ n = omega arith in
      let next : (i : ℕ) → n + suc i ≡ n + 1 + i = λ i. omega arith in
      All-append P (f (n, x)) (flat_map f (enumerate_from (n + 1) xs))
      (subst (λ (k : ℕ). All P (f (k, x))) here (each 0 x refl))
      (all_given f (n + 1) xs (λ i y is. subst (λ (k : ℕ). All P (f (k, y))) (next i) (each (suc i) y is)))
