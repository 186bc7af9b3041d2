-- The first fault of the elements of a list.
use Rattle.std.proofs.Common.{◌≡◌, ℕ, ◌+◌, ◌<◌, ◌≤◌, true, false, List, [], ◌∷◌, ◌++◌, length, drop, Option, Some, None}
use Rattle.std.proofs.Common.{refl, sym, ap, ◌∙◌, arith, zero, suc}
use Rattle.std.specs.List.{cons_option, enumerate_from, filter_map, flat_map}
use Rattle.std.specs.Option.{is_some, option_map, option_or}
use Rattle.std.specs.Prelude.{slice_get}
use Rattle.std.proofs.lemmas.List.{drop_all, drop_more}
use Rattle.std.proofs.lemmas.Option.{get_or_from_slice_get}
use Rattle.class_pool.specs.Resolution.{first}
use Rattle.link_check.specs.declared.fault.ProfileKind.{ProfileKind}
use Rattle.link_check.specs.Profile.{fault_at, least}

-- ---- lists

pub first_option : {X : Type 0} (o : Option X) (xs : List X) → first (cons_option o xs) ≡ option_or o (first xs)
first_option (Some x) xs = refl
first_option None xs = refl

pub first_append : {X : Type 0} (xs ys : List X) → first (xs ++ ys) ≡ option_or (first xs) (first ys)
first_append [] ys = refl
first_append (x ∷ xs) ys = refl

pub first_flat : {X Y : Type 0} (f : X → List Y) (xs : List X)
    → first (flat_map f xs) ≡ first (filter_map (λ x. first (f x)) xs)
first_flat f [] = refl
first_flat {X = X} {Y = Y} f (x ∷ xs) =
    first_append (f x) (flat_map f xs) ∙ ap (option_or (first (f x))) (first_flat f xs)
    ∙ sym (first_option (first (f x)) (filter_map (λ (y : X). first (f y)) xs))

-- ---- the elements with their numbers, from one on

abbrev pub first_from : {X Y : Type 0} → (ℕ × X → Option Y) → ℕ → List X → ℕ → Option Y
first_from h n xs i = first (filter_map h (enumerate_from (n + i) (drop i xs)))

more_from : {X Y : Type 0} (h : ℕ × X → Option Y) (n : ℕ) (xs : List X) (i : ℕ) (x : X) → i < length xs
    → slice_get xs i ≡ Some x
    → first_from h n xs i ≡ option_or (h (n + i, x)) (first_from h n xs (i + 1))
more_from {X = X} {Y = Y} h n xs i x within is =
    let rest : List X = drop (i + 1) xs in
    let e : drop i xs ≡ x ∷ rest = drop_more xs i x within
    ∙ ap (λ (y : X). y ∷ rest) (get_or_from_slice_get xs i x x is) in
    let next : n + i + 1 ≡ n + (i + 1) = omega arith in
    ap (λ (ys : List X). first (filter_map h (enumerate_from (n + i) ys))) e
    ∙ first_option (h (n + i, x)) (filter_map h (enumerate_from (n + i + 1) rest))
    ∙ ap (λ (k : ℕ). option_or (h (n + i, x)) (first (filter_map h (enumerate_from k rest)))) next

-- the element i has the number k
pub more_at : {X Y : Type 0} (h : ℕ × X → Option Y) (n : ℕ) (xs : List X) (i k : ℕ) (x : X) → k ≡ n + i → i < length xs
    → slice_get xs i ≡ Some x
    → first_from h n xs i ≡ option_or (h (k, x)) (first_from h n xs (i + 1))
more_at h n xs i k x e within is = more_from h n xs i x within is
    ∙ ap (λ (m : ℕ). option_or (h (m, x)) (first_from h n xs (i + 1))) (sym e)

pub first_here : {X Y : Type 0} (h : ℕ × X → Option Y) (n : ℕ) (xs : List X) (i k : ℕ) (x : X) (y : Y) → k ≡ n + i
    → i < length xs → slice_get xs i ≡ Some x → h (k, x) ≡ Some y
    → first_from h n xs i ≡ Some y
first_here {X = X} {Y = Y} h n xs i k x y e within is some =
    more_at h n xs i k x e within is ∙ ap (λ (o : Option Y). option_or o (first_from h n xs (i + 1))) some

pub first_next : {X Y : Type 0} (h : ℕ × X → Option Y) (n : ℕ) (xs : List X) (i k : ℕ) (x : X) → k ≡ n + i
    → i < length xs → slice_get xs i ≡ Some x → h (k, x) ≡ None
    → first_from h n xs i ≡ first_from h n xs (i + 1)
first_next {X = X} {Y = Y} h n xs i k x e within is none =
    more_at h n xs i k x e within is ∙ ap (λ (o : Option Y). option_or o (first_from h n xs (i + 1))) none

pub some_or : {Y : Type 0} (o rest : Option Y) → is_some o ≡ true → option_or o rest ≡ o
some_or (Some y) rest h = refl
some_or None rest h = absurd cc

pub none_or : {Y : Type 0} (o rest : Option Y) → is_some o ≡ false → option_or o rest ≡ rest
none_or (Some y) rest h = absurd cc
none_or None rest h = refl

pub first_over : {X Y : Type 0} (h : ℕ × X → Option Y) (n : ℕ) (xs : List X) (i : ℕ) → length xs ≤ i
    → first_from h n xs i ≡ None
first_over {X = X} {Y = Y} h n xs i over = ap (λ (ys : List X). first (filter_map h (enumerate_from (n + i) ys)))
    (drop_all i xs over)

-- ---- the element of a numbered list that gives the first result

-- those before it give none
pub record From {X Y : Type 0} (h : ℕ × X → Option Y) (n : ℕ) (xs : List X) (y : Y) : Type 0 where
  pub at : ℕ
  pub number : ℕ
  pub counted : number ≡ n + at
  pub element : X
  pub stands : slice_get xs at ≡ Some element
  pub gives : h (number, element) ≡ Some y
  pub before : (k i : ℕ) (x : X) → k ≡ n + i → i < at → slice_get xs i ≡ Some x → h (k, x) ≡ None

none_before : {X Y : Type 0} (h : ℕ × X → Option Y) (n : ℕ) (x : X) (xs : List X) (at : ℕ) → h (n, x) ≡ None
    → ((k i : ℕ) (z : X) → k ≡ n + 1 + i → i < at → slice_get xs i ≡ Some z → h (k, z) ≡ None)
    → (k i : ℕ) (z : X) → k ≡ n + i → i < suc at → slice_get (x ∷ xs) i ≡ Some z → h (k, z) ≡ None
none_before {X} h n x xs at none others k zero z e lt is =
    let same : x ≡ z = cc in
    let here : k ≡ n = omega (arith, e) in
    ap (λ (m : ℕ). h (m, z)) here ∙ ap (λ (w : X). h (n, w)) (sym same) ∙ none
none_before h n x xs at none others k (suc i) z e lt is = others k i z (omega (arith, e)) (omega (arith, lt)) is

later : {X Y : Type 0} (h : ℕ × X → Option Y) (n : ℕ) (x : X) (xs : List X) (y : Y) → h (n, x) ≡ None
    → From h (n + 1) xs y → From h n (x ∷ xs) y
later h n x xs y none f =
    let e = f.counted in
    record {
      at = suc f.at;
      number = f.number;
      counted = omega (arith, e);
      element = f.element;
      stands = f.stands;
      gives = f.gives;
      before = none_before h n x xs f.at none f.before;
    }

one_from : {X Y : Type 0} (h : ℕ × X → Option Y) (n : ℕ) (x : X) (xs : List X) (y : Y) (o : Option Y) (rest : List Y)
    → h (n, x) ≡ o → first (cons_option o rest) ≡ Some y → (first rest ≡ Some y → From h (n + 1) xs y)
    → From h n (x ∷ xs) y
one_from h n x xs y (Some z) rest gives is others = record {
  at = zero;
  number = n;
  counted = omega arith;
  element = x;
  stands = refl;
  gives = gives ∙ is;
  before = λ k i w e lt at. absurd (omega (arith, lt));
}
one_from h n x xs y None rest gives is others = later h n x xs y gives (others is)

pub from_list : {X Y : Type 0} (h : ℕ × X → Option Y) (n : ℕ) (xs : List X) (y : Y)
    → first (filter_map h (enumerate_from n xs)) ≡ Some y → From h n xs y
from_list h n [] y is = absurd cc
from_list h n (x ∷ xs) y is =
    one_from h n x xs y (h (n, x)) (filter_map h (enumerate_from (n + 1) xs)) refl is (from_list h (n + 1) xs y)

none_at : {X Y : Type 0} (h : ℕ × X → Option Y) (n : ℕ) (x : X) (o : Option Y) (rest : List Y) → h (n, x) ≡ o
    → first (cons_option o rest) ≡ None → (h (n, x) ≡ None) × (first rest ≡ None)
none_at h n x (Some z) rest gives is = absurd cc
none_at h n x None rest gives is = (gives, is)

-- where there is no first result none is given
pub none_in : {X Y : Type 0} (h : ℕ × X → Option Y) (n : ℕ) (xs : List X)
    → first (filter_map h (enumerate_from n xs)) ≡ None
    → (k i : ℕ) (x : X) → k ≡ n + i → slice_get xs i ≡ Some x → h (k, x) ≡ None
none_in h n [] none k i x e is = absurd cc
none_in {X} h n (y ∷ ys) none k zero x e is =
    let both = none_at h n y (h (n, y)) (filter_map h (enumerate_from (n + 1) ys)) refl none in
    let same : y ≡ x = cc in
    let here : k ≡ n = omega (arith, e) in
    ap (λ (m : ℕ). h (m, x)) here ∙ ap (λ (z : X). h (n, z)) (sym same) ∙ both.0
none_in h n (y ∷ ys) none k (suc i) x e is =
    let both = none_at h n y (h (n, y)) (filter_map h (enumerate_from (n + 1) ys)) refl none in
    none_in h (n + 1) ys both.1 k i x (omega (arith, e)) is

-- ---- faults

pub fault_is : (number : ℕ) (place : Option ℕ) (kinds : List ProfileKind) (o : Option ProfileKind) (kind : ProfileKind)
    → o ≡ least kinds → o ≡ Some kind
    → fault_at number place kinds ≡ Some (record { class = number; member = place; kind = kind })
fault_is number place kinds o kind is some =
    ap (option_map (λ (k : ProfileKind). record { class = number; member = place; kind = k })) (sym is ∙ some)

pub fault_none : (number : ℕ) (place : Option ℕ) (kinds : List ProfileKind) (o : Option ProfileKind) → o ≡ least kinds
    → o ≡ None → fault_at number place kinds ≡ None
fault_none number place kinds o is none = ap
    (option_map (λ (k : ProfileKind). record { class = number; member = place; kind = k })) (sym is ∙ none)
