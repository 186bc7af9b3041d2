-- Lists that are gone over, and lists in reverse.
use Rattle.std.proofs.Common.{◌≡◌, ◌≤◌, ◌<◌, ℕ, ◌+◌, Bool, true, false, ◌&&◌, ◌||◌, List, [], ◌∷◌, ◌++◌, length, get_or}
use Rattle.std.proofs.Common.{drop, map, reverse, replicate, ◌*◌, mul-one, refl, sym, ap, ◌∙◌, arith, set, take, ⊎_elim}
use Rattle.std.specs.Cmp.Lexicographic.{pointwise, unequal}
use Rattle.std.specs.List.{list_any, sum_by}
use Rattle.std.proofs.lemmas.Bool.Decides.{eqb_tells}
use Rattle.std.proofs.lemmas.List.{append_assoc, drop-set-lt, drop_all, get_or_default, length-reverse, reverse-append}
use Rattle.std.proofs.lemmas.List.{take_more, take_more_set, append-nil}
use Rattle.std.proofs.lemmas.List.Folds.{list_any-append}
use Rattle.std.proofs.lemmas.List.Sums.{sum_by-cons, sum_by-set, sum_by_push}
use Rattle.std.proofs.lemmas.List.Folds.{sum_by-replicate}
use Rattle.std.proofs.Math.Bool.{and-true}
use Rattle.jv_base.proofs.Lists.{rest_is}

-- ---- sums

-- a count of what is gone over, and of what is left
pub counted_more : {X : Type 0} (F : List X → ℕ) (f : X → ℕ) → ((x : X) (r : List X) → F (x ∷ r) ≡ f x + F r)
    → (xs : List X) (i : ℕ) (x : X) (words more sum total : ℕ) → i < length xs → x ≡ get_or xs i x → more ≡ f x
    → sum ≡ words + more → words + F (drop i xs) ≡ total → sum + F (drop (i + 1) xs) ≡ total
counted_more F f cons xs i x words more sum total lt is m s so_far =
    let e : F (drop i xs) ≡ f x + F (drop (i + 1) xs) = ap F (rest_is xs i x lt is) ∙ cons x (drop (i + 1) xs) in
    omega (arith, e, m, s, so_far)

pub counted_all : {X : Type 0} (F : List X → ℕ) (xs : List X) (i words total : ℕ) → length xs ≤ i → F [] ≡ 0
    → words + F (drop i xs) ≡ total → words ≡ total
counted_all F xs i words total le none so_far =
    let e : F (drop i xs) ≡ 0 = ap F (drop_all i xs le) ∙ none in
    omega (arith, e, so_far)

pub reverse_cons : {X : Type 0} (x : X) (xs : List X) → reverse (x ∷ xs) ≡ reverse xs ++ x ∷ []
reverse_cons x xs = reverse-append (x ∷ []) xs

-- the sum is the same in reverse
pub sum_reversed : {X : Type 0} (f : X → ℕ) (xs : List X) → sum_by f (reverse xs) ≡ sum_by f xs
sum_reversed f [] = refl
sum_reversed f (x ∷ xs) =
    let e = ap (sum_by f) (reverse_cons x xs) in
    let p = sum_by_push f (reverse xs) x in
    let so = sum_reversed f xs in
    let c = sum_by-cons f x xs in
    e ∙ omega (arith, p, so, c)

-- a sum over changed elements
pub sum_mapped : {X Y : Type 0} (f : Y → ℕ) (g : X → Y) (xs : List X) → sum_by f (map g xs) ≡ sum_by (λ x. f (g x)) xs
sum_mapped f g [] = refl
sum_mapped f g (x ∷ xs) =
    let a = sum_by-cons f (g x) (map g xs) in
    let b = sum_by-cons (λ y. f (g y)) x xs in
    let so = sum_mapped f g xs in
    omega (arith, a, b, so)

-- the sum of many equal elements of one word
pub sum_of_ones : {X : Type 0} (f : X → ℕ) (n : ℕ) (x : X) → f x ≡ 1 → n ≡ sum_by f (replicate n x)
sum_of_ones f n x one =
    let s = sum_by-replicate f n x in
    let m : n * f x ≡ n = ap (λ (k : ℕ). n * k) one ∙ mul-one n in
    sym (s ∙ m)

-- ---- tests

or_swap : (a b : Bool) → (a || (b || false)) ≡ (b || a)
or_swap true true = refl
or_swap true false = refl
or_swap false true = refl
or_swap false false = refl

-- some element passes, in reverse too
pub any_reversed : {X : Type 0} (p : X → Bool) (xs : List X) → list_any p (reverse xs) ≡ list_any p xs
any_reversed p [] = refl
any_reversed p (x ∷ xs) = ap (list_any p) (reverse_cons x xs) ∙ list_any-append p (reverse xs) (x ∷ [])
    ∙ ap (λ (b : Bool). b || (p x || false)) (any_reversed p xs) ∙ or_swap (list_any p xs) (p x)

pub append_map : {X Y : Type 0} (f : X → Y) (xs ys : List X) → map f (xs ++ ys) ≡ map f xs ++ map f ys
append_map f [] ys = refl
append_map {X} {Y} f (x ∷ xs) ys = ap (λ (r : List Y). f x ∷ r) (append_map f xs ys)

-- the same of each element, in reverse
pub map_reversed : {X Y : Type 0} (f : X → Y) (xs : List X) → map f (reverse xs) ≡ reverse (map f xs)
map_reversed f [] = refl
map_reversed {X} {Y} f (x ∷ xs) = ap (map f) (reverse_cons x xs) ∙ append_map f (reverse xs) (x ∷ [])
    ∙ ap (λ (r : List Y). r ++ f x ∷ []) (map_reversed f xs) ∙ sym (reverse_cons (f x) (map f xs))

-- ---- pairs

-- a pair that differs
pub pair_differs : {X : Type 0} (E : X → X → Bool) (xs ys : List X) (i : ℕ) (x y : X) (total : Bool) → i < length xs
    → i < length ys
    → x ≡ get_or xs i x → y ≡ get_or ys i y → E x y ≡ false
    → pointwise E (drop i xs) (drop i ys) ≡ total → false ≡ total
pair_differs {X} E xs ys i x y total ltx lty isx isy differs so_far =
    sym (ap (λ (b : Bool). b && pointwise E (drop (i + 1) xs) (drop (i + 1) ys)) differs)
    ∙ sym (ap (λ (r : List X). pointwise E r (drop i ys)) (rest_is xs i x ltx isx)
    ∙ ap (λ (r : List X). pointwise E (x ∷ drop (i + 1) xs) r) (rest_is ys i y lty isy)) ∙ so_far

-- ---- a change of each element in its place

heads : {X : Type 0} (x y : X) (xs ys : List X) → x ∷ xs ≡ y ∷ ys → (x ≡ y) × (xs ≡ ys)
heads x y xs ys h = (cc, cc)

-- one more element is changed in its place
pub changed_more : {X : Type 0} (h : X → X) (old now : List X) (i : ℕ) (x y : X) → i < length now
    → length now ≡ length old
    → x ≡ get_or now i x → y ≡ h x → take i now ≡ map h (take i old) → drop i now ≡ drop i old
    → (take (i + 1) (set now i y) ≡ map h (take (i + 1) old)) × (drop (i + 1) (set now i y) ≡ drop (i + 1) old)
changed_more {X} h old now i x y lt same is e front rest =
    let lto : i < length old = omega (arith, lt, same) in
    let both = heads x (get_or old i x) (drop (i + 1) now) (drop (i + 1) old)
    (sym (rest_is now i x lt is) ∙ rest
    ∙ rest_is old i (get_or old i x) lto (get_or_default old i x (get_or old i x) lto)) in (
      take_more_set now i y lt ∙ ap (λ (r : List X). r ++ y ∷ []) front
          ∙ ap (λ (z : X). map h (take i old) ++ z ∷ []) (e ∙ ap h both.0)
          ∙ sym (append_map h (take i old) (get_or old i x ∷ [])) ∙ ap (map h) (sym (take_more old i x lto)),
      drop-set-lt (i + 1) now i y (omega arith) ∙ both.1,
    )

-- the sum stays where an element is changed for one of the same size
pub set_sum : {X : Type 0} (f : X → ℕ) (xs : List X) (i : ℕ) (x y : X) → i < length xs → x ≡ get_or xs i x → f y ≡ f x
    → sum_by f (set xs i y) ≡ sum_by f xs
set_sum f xs i x y lt is same =
    let s = sum_by-set f xs i y x lt in
    let e : f (get_or xs i x) ≡ f x = ap f (sym is) in
    omega (arith, s, e, same)

-- ---- stacks that are compared from the other end

and_turn : (a b c : Bool) → (a && (b && c)) ≡ ((b && a) && c)
and_turn true true c = refl
and_turn true false c = refl
and_turn false true c = refl
and_turn false false c = refl

reverse_step : {X : Type 0} (x : X) (xs ys : List X) → reverse (x ∷ xs) ++ ys ≡ reverse xs ++ (x ∷ ys)
reverse_step {X} x xs ys = ap (λ (r : List X). r ++ ys) (reverse_cons x xs) ∙ append_assoc (reverse xs) (x ∷ []) ys

pairs_onto : {X : Type 0} (E : X → X → Bool) (xs ys us vs : List X) → length xs ≡ length ys
    → pointwise E (reverse xs ++ us) (reverse ys ++ vs) ≡ (pointwise E xs ys && pointwise E us vs)
pairs_onto E [] [] us vs h = refl
pairs_onto E [] (y ∷ ys) us vs h = absurd (omega (arith, h))
pairs_onto E (x ∷ xs) [] us vs h = absurd (omega (arith, h))
pairs_onto {X} E (x ∷ xs) (y ∷ ys) us vs h =
    ap (λ (r : List X). pointwise E r (reverse (y ∷ ys) ++ vs)) (reverse_step x xs us)
    ∙ ap (λ (r : List X). pointwise E (reverse xs ++ (x ∷ us)) r) (reverse_step y ys vs)
    ∙ pairs_onto E xs ys (x ∷ us) (y ∷ vs) (omega (arith, h))
    ∙ and_turn (pointwise E xs ys) (E x y) (pointwise E us vs)

pub pairs_reversed : {X : Type 0} (E : X → X → Bool) (xs ys : List X)
    → pointwise E (reverse xs) (reverse ys) ≡ pointwise E xs ys
pairs_reversed {X} E xs ys = ⊎_elim
    (λ h. ap (λ (r : List X). pointwise E r (reverse ys)) (sym (append-nil (reverse xs)))
    ∙ ap (λ (r : List X). pointwise E (reverse xs ++ []) r) (sym (append-nil (reverse ys)))
    ∙ pairs_onto E xs ys [] [] h.1 ∙ and-true (pointwise E xs ys))
    (λ n. unequal E (reverse xs) (reverse ys) (λ h. n.1 (sym (length-reverse xs) ∙ h ∙ length-reverse ys))
    ∙ sym (unequal E xs ys n.1))
    (eqb_tells (length xs) (length ys))
