-- What is found in a list, or isn't.
use Rattle.std.proofs.Common.{◌≡◌, ◌∙◌, ℕ, suc, Bool, true, false, cond, ◌||◌, List, [], ◌∷◌, ◌++◌, map}
use Rattle.std.proofs.Common.{Some, None, refl, sym, ap}
use Rattle.std.specs.List.{find, list_any, position}
use Rattle.std.specs.Option.{option_map}
use Rattle.class_pool.proofs.Distinct.{position_next}

module _ {A : Type 0} where
  -- what is found passes
  pub found_passes : (p : A → Bool) (xs : List A) (x : A) → find p xs ≡ Some x → p x ≡ true
  found_passes p [] x e = absurd cc
  found_passes p (y ∷ ys) x e = by (p y) refl (found_passes p ys x) e
    where
      by : (b : Bool) → p y ≡ b → (find p ys ≡ Some x → p x ≡ true) → cond b (Some y) (find p ys) ≡ Some x
          → p x ≡ true
      by true is later e = let same : y ≡ x = cc in ap p (sym same) ∙ is
      by false is later e = later e

  pub none_first : (p : A → Bool) (xs ys : List A) → find p (xs ++ ys) ≡ None → find p xs ≡ None
  none_first p [] ys e = refl
  none_first p (x ∷ xs) ys e = by (p x) (none_first p xs ys) e
    where
      by : (b : Bool) → (find p (xs ++ ys) ≡ None → find p xs ≡ None)
          → cond b (Some x) (find p (xs ++ ys)) ≡ None → cond b (Some x) (find p xs) ≡ None
      by true later e = absurd cc
      by false later e = later e

  pub none_last : (p : A → Bool) (xs ys : List A) → find p (xs ++ ys) ≡ None → find p ys ≡ None
  none_last p [] ys e = e
  none_last p (x ∷ xs) ys e = by (p x) (none_last p xs ys) e
    where
      by : (b : Bool) → (find p (xs ++ ys) ≡ None → find p ys ≡ None)
          → cond b (Some x) (find p (xs ++ ys)) ≡ None → find p ys ≡ None
      by true later e = absurd cc
      by false later e = later e

  -- where none is found there is no position
  pub none_at : (p : A → Bool) (xs : List A) → find p xs ≡ None → position p xs ≡ None
  none_at p [] e = refl
  none_at p (x ∷ xs) e = position_next p x xs ∙ by (p x) (none_at p xs) e
    where
      by : (b : Bool) → (find p xs ≡ None → position p xs ≡ None) → cond b (Some x) (find p xs) ≡ None
          → cond b (Some 0) (option_map suc (position p xs)) ≡ None
      by true later e = absurd cc
      by false later e = ap (option_map suc) (later e)

  -- where no test passes none is found
  pub none_any : (p : A → Bool) (xs : List A) → list_any p xs ≡ false → find p xs ≡ None
  none_any p [] e = refl
  none_any p (x ∷ xs) e = by (p x) (none_any p xs) e
    where
      by : (b : Bool) → (list_any p xs ≡ false → find p xs ≡ None) → (b || list_any p xs) ≡ false
          → cond b (Some x) (find p xs) ≡ None
      by true later e = absurd cc
      by false later e = later e

  -- what has a position passes somewhere
  pub any_at : (p : A → Bool) (xs : List A) (i : ℕ) → position p xs ≡ Some i → list_any p xs ≡ true
  any_at p xs i e = by (list_any p xs) refl
    where
      by : (b : Bool) → list_any p xs ≡ b → b ≡ true
      by true is = refl
      by false is = absurd (let none = none_at p xs (none_any p xs is) in cc)

module _ {A B : Type 0} (p : B → Bool) (q : A → Bool) (f : A → B) (same : (x : A) → q x ≡ p (f x)) where
  pub none_mapped : (xs : List A) → find p (map f xs) ≡ None → find q xs ≡ None
  none_mapped [] e = refl
  none_mapped (x ∷ xs) e = ap (λ b. cond b (Some x) (find q xs)) (same x) ∙ by (p (f x)) (none_mapped xs) e
    where
      by : (b : Bool) → (find p (map f xs) ≡ None → find q xs ≡ None)
          → cond b (Some (f x)) (find p (map f xs)) ≡ None → cond b (Some x) (find q xs) ≡ None
      by true later e = absurd cc
      by false later e = later e

  pub any_mapped : (xs : List A) → list_any q xs ≡ list_any p (map f xs)
  any_mapped [] = refl
  any_mapped (x ∷ xs) = ap (λ b. b || list_any q xs) (same x) ∙ ap (λ b. p (f x) || b) (any_mapped xs)
