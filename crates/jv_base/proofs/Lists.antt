-- Lists: what holds of their elements, their elements by places, and their lengths.
use Rattle.std.proofs.Common.{◌≡◌, ℕ, zero, suc, ◌+◌, ◌<◌, ◌≤◌, Bool, ◌||◌, List, [], ◌∷◌, ◌++◌, length, map, get_or}
use Rattle.std.proofs.Common.{take, drop, Option, Some, None, slice_get, refl, sym, ap, ◌∙◌, arith, append-nil, subst}
use Rattle.std.proofs.Common.{length-append, true, false, cond, inl, inr}
use Rattle.std.specs.List.{All, AllByRecursion, AllPairs, cons_option, enumerate_from, filter_map, flat_map, list_any}
use Rattle.std.proofs.Math.Bool.{or-false}
use Rattle.std.proofs.lemmas.List.{drop_more, map-append, take_more}
use Rattle.std.proofs.lemmas.List.Concat.{flat_map-append}
use Rattle.std.proofs.lemmas.List.Elements.{All-append, All-head, All-nil, All-tail}
use Rattle.std.proofs.lemmas.List.Folds.{list_any-append}
use Rattle.std.proofs.lemmas.Option.{get_or_from_slice_get, slice_get_within, same_Some, slice_get-get_or}
use Rattle.std.specs.List.{filter, find, position}
use Rattle.std.specs.Option.{option_map}
use Rattle.std.proofs.lemmas.Bool.{or_cases, or_left, or_right}
use Rattle.std.proofs.lemmas.List.Quantifiers.{position-Some}
use Rattle.std.proofs.lemmas.Option.{slice_get-map}

-- ---- what holds of each element

pub all_append : {A : Type 0} (P : A → Type 0) (xs ys : List A) → AllByRecursion P xs → AllByRecursion P ys
    → AllByRecursion P (xs ++ ys)
all_append P [] ys h k = k
all_append P (x ∷ xs) ys h k = (h.0, all_append P xs ys h.1 k)

pub all_split : {A : Type 0} (P : A → Type 0) (xs ys : List A) → AllByRecursion P (xs ++ ys)
    → AllByRecursion P xs × AllByRecursion P ys
all_split P [] ys h = (tt, h)
all_split P (x ∷ xs) ys h = let rest = all_split P xs ys h.1 in ((h.0, rest.0), rest.1)

pub all_flat : {A B : Type 0} (P : B → Type 0) (f : A → List B) (xs : List A) → All (λ x. All P (f x)) xs
    → All P (flat_map f xs)
all_flat P f [] h = All-nil P
all_flat P f (x ∷ xs) h = All-append P (f x) (flat_map f xs) (All-head (λ y. All P (f y)) x xs h)
    (all_flat P f xs (All-tail (λ y. All P (f y)) x xs h))

pub all_at : {A : Type 0} (P : A → Type 0) (xs : List A) (k : ℕ) (x : A) → AllByRecursion P xs
    → slice_get xs k ≡ Some x → P x
all_at P [] k x h is = absurd cc
all_at P (y ∷ ys) zero x h is = let same : y ≡ x = cc in subst P same h.0
all_at P (y ∷ ys) (suc k) x h is = all_at P ys k x h.1 is

pub all_from : {A : Type 0} (P : A → Type 0) (xs : List A) → ((k : ℕ) (x : A) → slice_get xs k ≡ Some x → P x)
    → AllByRecursion P xs
all_from P [] each = tt
all_from P (x ∷ xs) each = (each 0 x refl, all_from P xs (λ k y is. each (suc k) y is))

pub all_mapped : {A B : Type 0} (P : B → Type 0) (f : A → B) (xs : List A) → AllByRecursion (λ x. P (f x)) xs
    → AllByRecursion P (map f xs)
all_mapped P f [] h = tt
all_mapped P f (x ∷ xs) h = (h.0, all_mapped P f xs h.1)

pub all_weaker : {A : Type 0} (P Q : A → Type 0) → ((x : A) → P x → Q x) → (xs : List A) → AllByRecursion P xs
    → AllByRecursion Q xs
all_weaker P Q f [] h = tt
all_weaker P Q f (x ∷ xs) h = (f x h.0, all_weaker P Q f xs h.1)

pub all_both : {A : Type 0} (P Q : A → Type 0) (xs : List A) → AllByRecursion P xs → AllByRecursion Q xs
    → AllByRecursion (λ x. P x × Q x) xs
all_both P Q [] h k = tt
all_both P Q (x ∷ xs) h k = ((h.0, k.0), all_both P Q xs h.1 k.1)

pub all_filtered : {A : Type 0} (P : A → Type 0) (test : A → Bool) (xs : List A)
    → AllByRecursion (λ x. test x ≡ true → P x) xs → AllByRecursion P (filter test xs)
all_filtered P test [] h = tt
all_filtered P test (x ∷ xs) h = by (test x) refl (all_filtered P test xs h.1)
  where
    by : (b : Bool) → test x ≡ b → AllByRecursion P (filter test xs)
        → AllByRecursion P (cond b (x ∷ filter test xs) (filter test xs))
    by true e r = (h.0 e, r)
    by false e r = r

pub no_pairs : {A : Type 0} (R : A → A → Type 0) (x : A) → AllPairs R (x ∷ [])
no_pairs R x i j d h k = absurd (omega (arith, h, k))

-- whether some element passes, with one more element
pub any_more : {A : Type 0} (t : A → Bool) (xs : List A) (y : A) → list_any t (xs ++ y ∷ []) ≡ (list_any t xs || t y)
any_more t xs y = list_any-append t xs (y ∷ []) ∙ ap (λ (b : Bool). list_any t xs || b) (or-false (t y))

pub any_at : {A : Type 0} (p : A → Bool) (xs : List A) (k : ℕ) (x : A) → slice_get xs k ≡ Some x → p x ≡ true
    → list_any p xs ≡ true
any_at p [] k x at h = absurd cc
any_at p (y ∷ xs) zero x at h =
    let same : y ≡ x = cc in or_left (p y) (list_any p xs) (ap p same ∙ h)
any_at p (y ∷ xs) (suc k) x at h = or_right (p y) (list_any p xs) (any_at p xs k x at h)

pub any_where : {A : Type 0} (p : A → Bool) (xs : List A) → list_any p xs ≡ true
    → (k : ℕ) × (x : A) × (slice_get xs k ≡ Some x) × (p x ≡ true)
any_where p [] h = absurd cc
any_where p (y ∷ xs) h = elim (or_cases (p y) (list_any p xs) h) [
  | inl e ↦ (0, y, refl, e)
  | inr e ↦ let r = any_where p xs e in (suc r.0, r.1, r.2, r.3)
]

pub none_passes : {A : Type 0} (test : A → Bool) (xs : List A) → find test xs ≡ None
    → AllByRecursion (λ x. test x ≡ false) xs
none_passes test [] h = tt
none_passes {A = A} test (x ∷ xs) h =
    let parts = by (test x) (find test xs) h in
    (parts.0, none_passes test xs parts.1)
  where
    by : (b : Bool) (rest : Option A) → cond b (Some x) rest ≡ None → (b ≡ false) × (rest ≡ None)
    by true rest k = absurd cc
    by false rest k = (refl, k)

-- ---- lists without elements

pub nil_parts : {A : Type 0} (xs ys : List A) → xs ++ ys ≡ [] → (xs ≡ []) × (ys ≡ [])
nil_parts [] ys h = (refl, h)
nil_parts (x ∷ xs) ys h = absurd cc

pub nil_joined : {A : Type 0} (xs ys : List A) → xs ≡ [] → ys ≡ [] → xs ++ ys ≡ []
nil_joined {A} xs ys h k = ap (λ (t : List A). t ++ ys) h ∙ k

-- ---- the first element and the others

pub heads : {A : Type 0} (x y : A) (xs ys : List A) → x ∷ xs ≡ y ∷ ys → x ≡ y
heads x y xs ys h = cc

pub tails : {A : Type 0} (x y : A) (xs ys : List A) → x ∷ xs ≡ y ∷ ys → xs ≡ ys
tails x y xs ys h = cc

-- what is left from an element on
pub rest_is : {A : Type 0} (xs : List A) (i : ℕ) (x : A) → i < length xs → x ≡ get_or xs i x
    → drop i xs ≡ x ∷ drop (i + 1) xs
rest_is {A} xs i x lt is = drop_more xs i x lt ∙ ap (λ (y : A). y ∷ drop (i + 1) xs) (sym is)

-- ---- elements by their places

pub found_at : {A : Type 0} (xs : List A) (k : ℕ) → k < length xs → (x : A) × (slice_get xs k ≡ Some x)
found_at [] k lt = absurd (omega arith)
found_at (x ∷ xs) zero lt = (x, refl)
found_at (x ∷ xs) (suc k) lt = found_at xs k (omega arith)

pub got_in_front : {A : Type 0} (xs ys : List A) (k : ℕ) (x : A) → slice_get xs k ≡ Some x
    → slice_get (xs ++ ys) k ≡ Some x
got_in_front [] ys k x is = absurd cc
got_in_front (y ∷ xs) ys zero x is = is
got_in_front (y ∷ xs) ys (suc k) x is = got_in_front xs ys k x is

pub got_left : {A : Type 0} (xs ys : List A) (k : ℕ) → k < length xs → slice_get (xs ++ ys) k ≡ slice_get xs k
got_left [] ys k low = absurd (omega (arith, low))
got_left (x ∷ xs) ys zero low = refl
got_left (x ∷ xs) ys (suc k) low = got_left xs ys k (omega (arith, low))

pub got_right : {A : Type 0} (xs ys : List A) (k : ℕ) → slice_get (xs ++ ys) (length xs + k) ≡ slice_get ys k
got_right [] ys k = let e : 0 + k ≡ k = omega arith in ap (slice_get ys) e
got_right (x ∷ xs) ys k =
    let e : suc (length xs) + k ≡ suc (length xs + k) = omega arith in
    ap (slice_get (x ∷ (xs ++ ys))) e ∙ got_right xs ys k

pub got_mapped : {A B : Type 0} (f : A → B) (xs : List A) (k : ℕ) (x : A) → slice_get xs k ≡ Some x
    → slice_get (map f xs) k ≡ Some (f x)
got_mapped f xs k x at = slice_get-map f xs k ∙ ap (option_map f) at

pub mapped_from : {A B : Type 0} (f : A → B) (xs : List A) (k : ℕ) (y : B) → slice_get (map f xs) k ≡ Some y
    → (x : A) × (slice_get xs k ≡ Some x) × (y ≡ f x)
mapped_from f [] k y at = absurd cc
mapped_from f (x ∷ xs) zero y at = (x, refl, sym (same_Some (f x) y at))
mapped_from f (x ∷ xs) (suc k) y at = mapped_from f xs k y at

pub placed : {A : Type 0} (p : A → Bool) (xs : List A) (n : ℕ) → position p xs ≡ Some n
    → (x : A) × (slice_get xs n ≡ Some x) × (p x ≡ true)
placed p [] n is = absurd cc
placed p (x ∷ xs) n is = let h = position-Some p (x ∷ xs) n x is in
    (get_or (x ∷ xs) n x, slice_get-get_or (x ∷ xs) n x h.0, h.1)

-- ---- one more element

pub take_got : {A : Type 0} (xs : List A) (i : ℕ) (x : A) → slice_get xs i ≡ Some x
    → take (i + 1) xs ≡ take i xs ++ x ∷ []
take_got xs i x is = take_more xs i x (slice_get_within xs i x is)
    ∙ ap (λ y. take i xs ++ y ∷ []) (get_or_from_slice_get xs i x x is)

pub mapped_more : {A B : Type 0} (f : A → B) (xs : List A) (i : ℕ) (x : A) → i < length xs → x ≡ get_or xs i x
    → map f (take i xs) ++ f x ∷ [] ≡ map f (take (i + 1) xs)
mapped_more f xs i x below is =
    ap (λ y. map f (take i xs) ++ f y ∷ []) is
    ∙ sym (map-append f (take i xs) (get_or xs i x ∷ []))
    ∙ ap (map f) (sym (take_more xs i x below))

pub flat_more : {A B : Type 0} (f : A → List B) (xs : List A) (i : ℕ) (x : A) → i < length xs → x ≡ get_or xs i x
    → flat_map f (take i xs) ++ f x ≡ flat_map f (take (i + 1) xs)
flat_more f xs i x below is =
    ap (λ y. flat_map f (take i xs) ++ f y) is
    ∙ ap (λ l. flat_map f (take i xs) ++ l) (sym (append-nil (f (get_or xs i x))))
    ∙ sym (flat_map-append f (take i xs) (get_or xs i x ∷ []))
    ∙ ap (flat_map f) (sym (take_more xs i x below))

-- ---- numbers and lengths

pub enumerate_from-append : {A : Type 0} (n : ℕ) (xs ys : List A)
    → enumerate_from n (xs ++ ys) ≡ enumerate_from n xs ++ enumerate_from (n + length xs) ys
enumerate_from-append {A} n [] ys =
    let same : n ≡ n + length {A = A} [] = omega arith in ap (λ k. enumerate_from k ys) same
enumerate_from-append n (x ∷ xs) ys =
    let next : n + 1 + length xs ≡ n + length (x ∷ xs) = omega arith in
    ap (λ t. (n, x) ∷ t) (enumerate_from-append (n + 1) xs ys)
    ∙ ap (λ k. (n, x) ∷ (enumerate_from (n + 1) xs ++ enumerate_from k ys)) next

pub length-filter_map : {A B : Type 0} (f : A → Option B) (xs : List A) → length (filter_map f xs) ≤ length xs
length-filter_map f [] = omega arith
length-filter_map {B = B} f (x ∷ xs) = by (f x) (filter_map f xs) (length-filter_map f xs)
  where
    by : (o : Option B) (ys : List B) → length ys ≤ length xs → length (cons_option o ys) ≤ length (x ∷ xs)
    by None ys h = omega (arith, h)
    by (Some y) ys h = omega (arith, h)

pub front_shorter : {A B : Type 0} (f : A → List B) (xs : List A) (i : ℕ)
    → length (flat_map f (take i xs)) ≤ length (flat_map f xs)
front_shorter f xs zero = omega arith
front_shorter f [] (suc i) = omega arith
front_shorter f (x ∷ xs) (suc i) =
    let front = length-append (f x) (flat_map f (take i xs)) in
    let all = length-append (f x) (flat_map f xs) in
    let rest = front_shorter f xs i in
    omega (arith, front, all, rest)
