-- Collecting what each element gives, as a loop does.
use Rattle.std.proofs.Common.{◌≡◌, ℕ, ◌+◌, ◌<◌, ◌≤◌, List, [], ◌∷◌, ◌++◌, length, get_or, drop, Result, Ok, Err}
use Rattle.std.proofs.Common.{add-one, drop-cons, refl, sym, ap, ◌∙◌, append_assoc}
use Rattle.std.proofs.lemmas.List.{append-nil, drop_all}
use Rattle.jv_base.specs.Outcome.{FaultIs, ◌>>=◌}
use Rattle.jv_base.specs.declared.outcome.Or.{Or}
use Rattle.jv_base.specs.declared.outcome.Or.TheVariants.{Fault, OutOfMemory}
use Rattle.code_read.specs.Targets.{collected, with_first}

-- what was collected, before what is still to be
abbrev pub onto : {B X : Type 0} → List B → Result (List B) X → Result (List B) X
onto front (Ok xs) = Ok (front ++ xs)
onto front (Err e) = Err e

regroup : {B X : Type 0} (front : List B) (n : B) (rest : Result (List B) X)
    → onto front (with_first {X = X} (Ok n) rest) ≡ onto (front ++ n ∷ []) rest
regroup front n (Ok x) = ap (λ (ns : List _). let R : Result (List _) _ = Ok ns in R) (simp append_assoc)
regroup front n (Err f) = refl

-- what the rest gives, its first element told
pub one_more : {A B X : Type 0} (f : A → Result B X) (front : List B) (x : A) (xs : List A) (n : B)
    (total : Result (List B) X) → f x ≡ Ok n → onto front (collected f (x ∷ xs)) ≡ total
    → onto (front ++ n ∷ []) (collected f xs) ≡ total
unfolding collected
one_more f front x xs n total h so_far = sym
    (ap (λ r. onto front (with_first r (collected f xs))) h ∙ regroup front n (collected f xs)) ∙ so_far

pub one_fault : {A B X : Type 0} (f : A → Result B X) (front : List B) (x : A) (xs : List A) (e : X)
    (total : Result (List B) X) → f x ≡ Err e → onto front (collected f (x ∷ xs)) ≡ total → total ≡ Err e
unfolding collected
one_fault f front x xs e total h so_far = sym so_far ∙ ap (λ r. onto front (with_first r (collected f xs))) h

pub no_more : {A B X : Type 0} (f : A → Result B X) (front : List B) (total : Result (List B) X)
    → onto front (collected f []) ≡ total → total ≡ Ok front
unfolding collected
no_more f front total so_far = sym so_far
    ∙ ap (λ (ns : List _). let R : Result (List _) _ = Ok ns in R) (append-nil front)

-- ---- over a list by its index

next_is : {A : Type 0} (xs : List A) (i : ℕ) (d : A) → i < length xs → drop i xs ≡ get_or xs i d ∷ drop (i + 1) xs
next_is xs i d lt = rw (add-one, drop-cons xs i d) refl

pub goes_on : {A B X : Type 0} (f : A → Result B X) (front : List B) (xs : List A) (i : ℕ) (d : A) (n : B)
    (total : Result (List B) X) → i < length xs → f (get_or xs i d) ≡ Ok n
    → onto front (collected f (drop i xs)) ≡ total → onto (front ++ n ∷ []) (collected f (drop (i + 1) xs)) ≡ total
goes_on f front xs i d n total lt h so_far = one_more f front (get_or xs i d) (drop (i + 1) xs) n total h
    (ap (λ ys. onto front (collected f ys)) (sym (next_is xs i d lt)) ∙ so_far)

pub stops : {A B X : Type 0} (f : A → Result B X) (front : List B) (xs : List A) (i : ℕ) (d : A) (e : X)
    (total : Result (List B) X) → i < length xs → f (get_or xs i d) ≡ Err e
    → onto front (collected f (drop i xs)) ≡ total → total ≡ Err e
stops f front xs i d e total lt h so_far = one_fault f front (get_or xs i d) (drop (i + 1) xs) e total h
    (ap (λ ys. onto front (collected f ys)) (sym (next_is xs i d lt)) ∙ so_far)

pub is_done : {A B X : Type 0} (f : A → Result B X) (front : List B) (xs : List A) (i : ℕ) (total : Result (List B) X)
    → length xs ≤ i → onto front (collected f (drop i xs)) ≡ total → total ≡ Ok front
is_done f front xs i total le so_far = no_more f front total
    (ap (λ ys. onto front (collected f ys)) (sym (drop_all i xs le)) ∙ so_far)

-- what came of one element, where the fault is the whole's
pub fault_comes : {A B X : Type 0} (f : A → Result B X) (front : List B) (x : A) (xs : List A) (e : Or X)
    (total : Result (List B) X) → FaultIs e (f x) → onto front (collected f (x ∷ xs)) ≡ total → FaultIs e total
fault_comes f front x xs OutOfMemory total h so_far = tt
fault_comes f front x xs (Fault e) total h so_far = one_fault f front x xs e total h so_far

-- ---- one step after another

-- what a second step gives, where the first gave something
pub second_step : {A B C X : Type 0} (r : Result A X) (s : A → Result B X) (f : A → B → Result C X) (x : A) (y : B)
    → r ≡ Ok x → s x ≡ Ok y → r >>= (λ x. s x >>= f x) ≡ f x y
second_step r s f x y h k = rw (h, k) refl

-- its fault is that of both
pub second_fault : {A B C X : Type 0} (r : Result A X) (s : A → Result B X) (f : A → B → Result C X) (x : A) (e : Or X)
    → r ≡ Ok x → FaultIs e (s x) → FaultIs e (r >>= (λ x. s x >>= f x))
second_fault r s f x OutOfMemory h k = tt
second_fault r s f x (Fault e) h k = rw (h, k) refl

-- a step after one that gave something, or a fault
pub then_step : {A B X : Type 0} (r : Result A X) (f : A → Result B X) (x : A) → r ≡ Ok x → r >>= f ≡ f x
then_step r f x h = rw h refl

pub then_fault : {A B X : Type 0} (r : Result A X) (f : A → Result B X) (e : Or X) → FaultIs e r → FaultIs e (r >>= f)
then_fault r f OutOfMemory h = tt
then_fault r f (Fault e) h = rw h refl
