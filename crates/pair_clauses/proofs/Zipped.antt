-- Lists beside one another, from a place on.
use Rattle.std.proofs.Common.{◌≡◌, ◌<◌, ◌≤◌, ◌+◌, ℕ, zero, suc, Bool, true, false, List, [], ◌∷◌, Option, Some, None}
use Rattle.std.proofs.Common.{is_some, length, drop, slice_get, get_or, refl, sym, ap, ◌∙◌, arith}
use Rattle.std.specs.List.{zip}
use Rattle.std.specs.Option.{option_or}
use Rattle.pair_clauses.specs.Finding.{first_place}
use Rattle.pair_clauses.specs.Places.{place_if}
use Rattle.pair_clauses.specs.declared.place.Place.{Place}

pub drop_none : {A : Type 0} (xs : List A) (i : ℕ) → slice_get xs i ≡ None → drop i xs ≡ []
drop_none [] zero h = refl
drop_none [] (suc i) h = refl
drop_none (x ∷ xs) zero h = absurd cc
drop_none (x ∷ xs) (suc i) h = drop_none xs i h

pub drop_some : {A : Type 0} (xs : List A) (i : ℕ) (x : A) → slice_get xs i ≡ Some x → drop i xs ≡ x ∷ drop (i + 1) xs
drop_some [] i x h = absurd cc
drop_some (y ∷ xs) zero x h = let e : y ≡ x = cc in ap (λ (z : _). z ∷ xs) e
drop_some (y ∷ xs) (suc i) x h =
    let e : suc i + 1 ≡ suc (i + 1) = omega arith in
    drop_some xs i x h ∙ ap (λ (n : ℕ). x ∷ drop n (y ∷ xs)) (sym e)

-- beside no elements stands none
pub zip_nil : {A B : Type 0} (xs : List A) → zip {K = A} {X = B} xs [] ≡ []
zip_nil [] = refl
zip_nil (x ∷ xs) = refl

-- the second list ends here
pub zip_ends : {A B : Type 0} (xs : List A) (ys : List B) (i : ℕ) → slice_get ys i ≡ None
    → zip (drop i xs) (drop i ys) ≡ []
zip_ends xs ys i none = ap (zip (drop i xs)) (drop_none ys i none) ∙ zip_nil (drop i xs)

-- the first list ends here
pub zip_done : {A B : Type 0} (xs : List A) (ys : List B) (i : ℕ) → slice_get xs i ≡ None
    → zip (drop i xs) (drop i ys) ≡ []
zip_done xs ys i none = ap (λ (zs : List _). zip zs (drop i ys)) (drop_none xs i none)

-- both go on
pub zip_more : {A B : Type 0} (xs : List A) (ys : List B) (i : ℕ) (x : A) (y : B) → slice_get xs i ≡ Some x
    → slice_get ys i ≡ Some y → zip (drop i xs) (drop i ys) ≡ (x, y) ∷ zip (drop (i + 1) xs) (drop (i + 1) ys)
zip_more xs ys i x y sx sy =
    ap (λ (zs : List _). zip zs (drop i ys)) (drop_some xs i x sx)
    ∙ ap (zip (x ∷ drop (i + 1) xs)) (drop_some ys i y sy)

module _ {A B : Type 0} (F : A × B → Option Place) (xs : List A) (ys : List B) (i : ℕ) where
  -- the first place is here
  pub first_here : (x : A) (y : B) (place : Place) → slice_get xs i ≡ Some x → slice_get ys i ≡ Some y
      → F (x, y) ≡ Some place → first_place F (zip (drop i xs) (drop i ys)) ≡ Some place
  first_here x y place sx sy at =
      ap (first_place F) (zip_more xs ys i x y sx sy)
      ∙ ap (λ (o : Option Place). option_or o (first_place F (zip (drop (i + 1) xs) (drop (i + 1) ys)))) at

  -- none is here
  pub first_on : (x : A) (y : B) → slice_get xs i ≡ Some x → slice_get ys i ≡ Some y → F (x, y) ≡ None
      → first_place F (zip (drop (i + 1) xs) (drop (i + 1) ys)) ≡ first_place F (zip (drop i xs) (drop i ys))
  first_on x y sx sy none = sym
      (ap (first_place F) (zip_more xs ys i x y sx sy)
      ∙ ap (λ (o : Option Place). option_or o (first_place F (zip (drop (i + 1) xs) (drop (i + 1) ys)))) none)

  -- the second list ends here
  pub first_ends : slice_get ys i ≡ None → first_place F (zip (drop i xs) (drop i ys)) ≡ None
  first_ends none = ap (first_place F) (zip_ends xs ys i none)

  -- the first list ends here
  pub first_done : slice_get xs i ≡ None → first_place F (zip (drop i xs) (drop i ys)) ≡ None
  first_done none = ap (first_place F) (zip_done xs ys i none)

pub beyond : {A : Type 0} (xs : List A) (i : ℕ) → length xs ≤ i → slice_get xs i ≡ None
beyond [] i h = refl
beyond (x ∷ xs) zero h = absurd (omega arith)
beyond (x ∷ xs) (suc i) h = beyond xs i (omega arith)

module _ {A B : Type 0} (F : A × B → Option Place) (xs : List A) (ys : List B) (i : ℕ) (x : A) (y : B)
    (o : Option Place)
    (sx : slice_get xs i ≡ Some x) (sy : slice_get ys i ≡ Some y) (is : o ≡ F (x, y)) where
  -- what is found here is the first
  pub first_found : is_some o ≡ true → o ≡ first_place F (zip (drop i xs) (drop i ys))
  first_found some = by o refl some
    where
      by : (p : Option Place) → o ≡ p → is_some p ≡ true → o ≡ first_place F (zip (drop i xs) (drop i ys))
      by None e h = absurd cc
      by (Some place) e h = e ∙ sym (first_here F xs ys i x y place sx sy (sym is ∙ e))

  -- nothing is found here
  pub first_unfound : is_some o ≡ false
      → first_place F (zip (drop (i + 1) xs) (drop (i + 1) ys)) ≡ first_place F (zip (drop i xs) (drop i ys))
  first_unfound none = by o refl none
    where
      by : (p : Option Place) → o ≡ p → is_some p ≡ false
          → first_place F (zip (drop (i + 1) xs) (drop (i + 1) ys)) ≡ first_place F (zip (drop i xs) (drop i ys))
      by None e h = first_on F xs ys i x y sx sy (sym is ∙ e)
      by (Some place) e h = absurd cc

-- the place where it is at fault, and none where it isn't
pub placed : (b : Bool) (p : Place) → b ≡ true → place_if b p ≡ Some p
placed true p h = refl
placed false p h = absurd cc

pub unplaced : (b : Bool) (p : Place) → b ≡ false → place_if b p ≡ None
unplaced true p h = absurd cc
unplaced false p h = refl

-- an element as it was read
pub got : {A : Type 0} (xs : List A) (i : ℕ) (x : A) → i < length xs → x ≡ get_or xs i x → slice_get xs i ≡ Some x
got [] i x low is = absurd (omega (arith, low))
got (y ∷ ys) zero x low is = ap Some (sym is)
got (y ∷ ys) (suc i) x low is = got ys i x (omega (arith, low)) is

module _ {A : Type 0} (F : A → Option Place) (xs : List A) (i : ℕ) (x : A) (sx : slice_get xs i ≡ Some x) where
  -- the first place of one list is here
  pub one_here : (place : Place) → F x ≡ Some place → first_place F (drop i xs) ≡ Some place
  one_here place at =
      ap (first_place F) (drop_some xs i x sx)
      ∙ ap (λ (o : Option Place). option_or o (first_place F (drop (i + 1) xs))) at

  -- none of one list is here
  pub one_on : F x ≡ None → first_place F (drop (i + 1) xs) ≡ first_place F (drop i xs)
  one_on none = sym (
      ap (first_place F) (drop_some xs i x sx)
      ∙ ap (λ (o : Option Place). option_or o (first_place F (drop (i + 1) xs))) none)
