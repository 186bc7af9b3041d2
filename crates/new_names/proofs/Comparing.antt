-- Two lists, compared from the first element on.
use Rattle.std.proofs.Common.{◌≡◌, ◌<◌, ◌≤◌, ◌+◌, ℕ, List, ◌∷◌, length, map, drop, get_or, sym, ap, ◌∙◌, arith}
use Rattle.std.proofs.lemmas.List.{drop_all, length-map}
use Rattle.jv_base.proofs.Lists.{rest_is}
use Rattle.new_names.specs.bodies.Comparing.{IsLeft}

-- the same elements, and then the same lists
both : {B : Type 0} (x y : B) (xs ys : List B) → x ≡ y → xs ≡ ys → x ∷ xs ≡ y ∷ ys
both x y xs ys e f = ap (λ (z : _). z ∷ xs) e ∙ ap (λ (zs : List _). y ∷ zs) f

pub alike : {A B : Type 0} (f : A → B) (xs : List A) (ys : List B) (i : ℕ) (x : A) (y : B) → i < length xs
    → i < length ys → x ≡ get_or xs i x → y ≡ get_or ys i y → f x ≡ y → IsLeft f xs ys i → IsLeft f xs ys (i + 1)
alike {A} {B} f xs ys i x y lx ly is_x is_y same left =
    let bx = rest_is xs i x lx is_x in
    let by = rest_is ys i y ly is_y in (
      (λ e. left.0 (ap (map f) bx ∙ both (f x) y (map f (drop (i + 1) xs)) (drop (i + 1) ys) same e ∙ sym by)),
      (λ e. let k : f x ∷ map f (drop (i + 1) xs) ≡ y ∷ drop (i + 1) ys = sym (ap (map f) bx) ∙ left.1 e ∙ by in cc),
    )

pub unlike : {A B : Type 0} (f : A → B) (xs : List A) (ys : List B) (i : ℕ) (x : A) (y : B) → i < length xs
    → i < length ys → x ≡ get_or xs i x → y ≡ get_or ys i y → (f x ≡ y → ⊥) → IsLeft f xs ys i → map f xs ≡ ys → ⊥
unlike {A} {B} f xs ys i x y lx ly is_x is_y other left e =
    let bx = rest_is xs i x lx is_x in
    let by = rest_is ys i y ly is_y in
    let k : f x ∷ map f (drop (i + 1) xs) ≡ y ∷ drop (i + 1) ys = sym (ap (map f) bx) ∙ left.1 e ∙ by in
    let h : f x ≡ y = cc in
    other h

pub all_alike : {A B : Type 0} (f : A → B) (xs : List A) (ys : List B) (i : ℕ) → length xs ≤ i → length xs ≡ length ys
    → IsLeft f xs ys i → map f xs ≡ ys
all_alike f xs ys i all same left =
    left.0 (ap (map f) (drop_all i xs all) ∙ sym (drop_all i ys (omega arith)))

pub apart : {A B : Type 0} (f : A → B) (xs : List A) (ys : List B) → (length xs ≡ length ys → ⊥) → map f xs ≡ ys → ⊥
apart f xs ys other e = other (sym (length-map xs f) ∙ ap length e)

pub all_left : {A B : Type 0} (f : A → B) (xs : List A) (ys : List B) → IsLeft f xs ys 0
all_left f xs ys = ((λ e. e), (λ e. e))
