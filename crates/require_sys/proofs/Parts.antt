-- What holds of each element of a list that is made of others, holds of what those have.
use Rattle.std.proofs.Common.{◌≡◌, ℕ, zero, suc, ◌+◌, Bool, true, false, cond, List, [], ◌∷◌, map, Option, Some}
use Rattle.std.proofs.Common.{None, slice_get, refl, sym, subst, arith}
use Rattle.std.specs.Prelude.{◌==◌, ◌&&◌, ◌||◌, IfSome, nat_lt}
use Rattle.std.specs.List.{All, AllByRecursion, cons_option, enumerate_from, filter, filter_map, flat_map, list_any}
use Rattle.std.proofs.lemmas.Bool.{eqb-true}
use Rattle.std.proofs.lemmas.List.Elements.{All-head, All-tail}
use Rattle.jv_base.proofs.Lists.{all_split}
use Rattle.class_pool.specs.declared.id.ClassId.{ClassId}
use Rattle.class_pool.specs.Walk.{same_class}
use Rattle.class_pool.proofs.EachOnce.{same_is}
use Rattle.require_sys.specs.Requires.{ascending, put}

pub no_and : (b : Bool) → (b && false) ≡ false
no_and true = refl
no_and false = refl

pub from_all : {X : Type 0} (P : X → Type 0) (xs : List X) → All P xs → AllByRecursion P xs
from_all P [] h = tt
from_all P (x ∷ xs) h = (All-head P x xs h, from_all P xs (All-tail P x xs h))

pub all_map : {X Y : Type 0} (P : Y → Type 0) (f : X → Y) (xs : List X) → AllByRecursion P (map f xs)
    → AllByRecursion (λ x. P (f x)) xs
all_map P f [] h = tt
all_map P f (x ∷ xs) h = (h.0, all_map P f xs h.1)

pub all_option : {X : Type 0} (P : X → Type 0) (o : Option X) (xs : List X) → AllByRecursion P (cons_option o xs)
    → IfSome o P × AllByRecursion P xs
all_option P None xs h = (tt, h)
all_option P (Some x) xs h = h

pub all_filter_map : {X Y : Type 0} (P : Y → Type 0) (f : X → Option Y) (xs : List X)
    → AllByRecursion P (filter_map f xs) → AllByRecursion (λ x. IfSome (f x) P) xs
all_filter_map P f [] h = tt
all_filter_map P f (x ∷ xs) h =
    let parts = all_option P (f x) (filter_map f xs) h in (parts.0, all_filter_map P f xs parts.1)

pub all_filter : {X : Type 0} (P : X → Type 0) (test : X → Bool) (xs : List X) → AllByRecursion P (filter test xs)
    → AllByRecursion (λ x. test x ≡ true → P x) xs
all_filter P test [] h = tt
all_filter P test (x ∷ xs) h = (here (test x) h, all_filter P test xs (rest (test x) h))
  where
    here : (b : Bool) → AllByRecursion P (cond b (x ∷ filter test xs) (filter test xs)) → b ≡ true → P x
    here true h e = h.0
    here false h e = absurd cc

    rest : (b : Bool) → AllByRecursion P (cond b (x ∷ filter test xs) (filter test xs))
        → AllByRecursion P (filter test xs)
    rest true h = h.1
    rest false h = h

pub all_flat_map : {X Y : Type 0} (P : Y → Type 0) (f : X → List Y) (xs : List X) → AllByRecursion P (flat_map f xs)
    → AllByRecursion (λ x. AllByRecursion P (f x)) xs
all_flat_map P f [] h = tt
all_flat_map P f (x ∷ xs) h =
    let parts = all_split P (f x) (flat_map f xs) h in (parts.0, all_flat_map P f xs parts.1)

pub all_enumerated : {X : Type 0} (P : ℕ × X → Type 0) (n : ℕ) (xs : List X) (i : ℕ) (x : X)
    → AllByRecursion P (enumerate_from n xs) → slice_get xs i ≡ Some x → P (n + i, x)
all_enumerated P n [] i x h e = absurd cc
all_enumerated P n (y ∷ xs) zero x h e =
    let same : y ≡ x = cc in
    let start : n ≡ n + zero = omega arith in
    subst (λ (k : ℕ). P (k, x)) start (subst (λ z. P (n, z)) same h.0)
all_enumerated P n (y ∷ xs) (suc i) x h e =
    let next : n + 1 + i ≡ n + suc i = omega arith in
    subst (λ (k : ℕ). P (k, x)) next (all_enumerated P (n + 1) xs i x h.1 e)

-- a class that stands in the list
pub all_among : (P : ClassId → Type 0) (c : ClassId) (xs : List ClassId) → AllByRecursion P xs
    → list_any (same_class c) xs ≡ true → P c
all_among P c [] h e = absurd cc
all_among P c (x ∷ xs) h e = by (same_class c x) refl e (λ k. all_among P c xs h.1 k)
  where
    by : (b : Bool) → same_class c x ≡ b → (b || list_any (same_class c) xs) ≡ true
        → (list_any (same_class c) xs ≡ true → P c) → P c
    by true same e r = subst P (sym (same_is c x same)) h.0
    by false same e r = r e

-- ---- ascending numbers

all_put : (P : ℕ → Type 0) (x : ℕ) (ys : List ℕ) → AllByRecursion P (put x ys) → P x × AllByRecursion P ys
all_put P x [] h = (h.0, tt)
all_put P x (y ∷ ys) h = by (nat_lt x y) (x == y) refl h (λ k. all_put P x ys k)
  where
    by : (less same : Bool) → (x == y) ≡ same
        → AllByRecursion P (cond less (x ∷ (y ∷ ys)) (cond same (y ∷ ys) (y ∷ put x ys)))
        → (AllByRecursion P (put x ys) → P x × AllByRecursion P ys) → P x × (P y × AllByRecursion P ys)
    by true same e h r = h
    by false true e h r = (subst P (sym (eqb-true x y e)) h.0, h)
    by false false e h r = let k = r h.1 in (k.0, (h.0, k.1))

pub all_ascending : (P : ℕ → Type 0) (xs : List ℕ) → AllByRecursion P (ascending xs) → AllByRecursion P xs
all_ascending P [] h = tt
all_ascending P (x ∷ xs) h = let k = all_put P x (ascending xs) h in (k.0, all_ascending P xs k.1)
