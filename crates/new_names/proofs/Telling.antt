-- Tables that are filled from the last line to the first.
use Rattle.std.proofs.Common.{◌≡◌, ◌<◌, ◌≤◌, ◌-◌, ◌+◌, ℕ, suc, Bool, true, false, cond, List, [], ◌∷◌, ◌++◌, Option}
use Rattle.std.proofs.Common.{Some, length, map, drop, take, get_or, refl, sym, ap, ◌∙◌, arith}
use Rattle.std.proofs.Math.Seq.{drop-cons}
use Rattle.std.proofs.lemmas.List.{take_more}
use Rattle.std.specs.Map.{lookup}
use Rattle.std.specs.Option.{option_map}

-- what is left at a place before the end begins with the element there
pub begins_at : {A : Type 0} (xs : List A) (left : ℕ) (x : A) → 0 < left → left ≤ length xs → x ≡ get_or xs (left - 1) x
    → drop (left - 1) xs ≡ x ∷ drop left xs
begins_at {A} xs left x some within is =
    let e : suc (left - 1) ≡ left = omega arith in
    drop-cons xs (left - 1) x (omega arith) ∙ ap (λ (y : A). y ∷ drop (suc (left - 1)) xs) (sym is)
    ∙ ap (λ (n : ℕ). x ∷ drop n xs) e

-- what a table of pairs finds where lines are made into pairs, and a line is put before the others
pub put_before : {A K V : Type 0} (test : K → Bool) (pairs : List A → List (K × V)) (xs : List A) (left : ℕ) (x : A)
    (new : Option V) → 0 < left → left ≤ length xs → x ≡ get_or xs (left - 1) x
    → new ≡ lookup test (pairs (x ∷ drop left xs)) → new ≡ lookup test (pairs (drop (left - 1) xs))
put_before {A} test pairs xs left x new some within is e =
    e ∙ ap (λ (ys : List A). lookup test (pairs ys)) (sym (begins_at xs left x some within is))

-- a value that is put is seen by a function
pub map_cond : {A B : Type 0} (f : A → B) (b : Bool) (x : A) (o : Option A)
    → option_map f (cond b (Some x) o) ≡ cond b (Some (f x)) (option_map f o)
map_cond f true x o = refl
map_cond f false x o = refl

map_last : {A B : Type 0} (f : A → B) (xs : List A) (x : A) → map f (xs ++ x ∷ []) ≡ map f xs ++ f x ∷ []
map_last f [] x = refl
map_last {A} {B} f (y ∷ ys) x = ap (λ (zs : List B). f y ∷ zs) (map_last f ys x)

-- one element more was seen by a function
pub map_more : {A B : Type 0} (f : A → B) (xs : List A) (i : ℕ) (x : A) (ys zs : List B) (y : B) → i < length xs
    → x ≡ get_or xs i x → ys ≡ map f (take i xs) → zs ≡ ys ++ y ∷ [] → y ≡ f x → zs ≡ map f (take (i + 1) xs)
map_more {A} {B} f xs i x ys zs y within is before grown same =
    grown ∙ ap (λ (t : List B). t ++ y ∷ []) before ∙ ap (λ (z : B). map f (take i xs) ++ z ∷ []) same
    ∙ sym (map_last f (take i xs) x)
    ∙ ap (λ (z : A). map f (take i xs ++ z ∷ [])) is
    ∙ ap (map f) (sym (take_more xs i x within))
