-- Slots as a list, and as a function.
use Rattle.std.proofs.Common.{◌≡◌, ℕ, zero, suc, ◌+◌, ◌<◌, List, [], ◌∷◌, ◌++◌}
use Rattle.std.proofs.Common.{Option, Some, None, refl, sym, ◌∙◌, arith, length, ap, get_or, take}
use Rattle.std.proofs.Math.Dec.{eqb-suc-suc}
use Rattle.std.proofs.lemmas.List.{take_more}
use Rattle.std.proofs.lemmas.Bool.{eq-eqb, ne_eqb}
use Rattle.std.specs.Prelude.{slice_set, if◌then◌else◌, Bool, true, false, ◌==◌}
use Rattle.jvm_model.specs.Local.{slots_from}
use Rattle.jvm_model.specs.Value.{Value, is_wide, set_at}
use Rattle.run_values.specs.Slots.{slots_of}
use Rattle.run_values.specs.bodies.Cells.{cells}

cells_push : (vs : List Value) (v : Value) → cells (vs ++ v ∷ []) ≡ cells vs ++ cells (v ∷ [])
cells_push [] v = refl
cells_push (u ∷ vs) v = by (is_wide u) (cells_push vs v)
  where
    by : (b : Bool) → cells (vs ++ v ∷ []) ≡ cells vs ++ cells (v ∷ [])
        → (Some u ∷ (if b then None ∷ cells (vs ++ v ∷ []) else cells (vs ++ v ∷ [])))
        ≡ (Some u ∷ (if b then None ∷ cells vs else cells vs)) ++ cells (v ∷ [])
    by true e = ap (λ s. Some u ∷ None ∷ s) e
    by false e = ap (λ s. Some u ∷ s) e

-- the slots of one more argument
pub cells_more : (vs : List Value) (i : ℕ) (v : Value) → i < length vs → v ≡ get_or vs i v
    → cells (take i vs) ++ cells (v ∷ []) ≡ cells (take (i + 1) vs)
cells_more vs i v h e = sym (cells_push (take i vs) v)
    ∙ ap cells (ap (λ (u : Value). take i vs ++ u ∷ []) e ∙ sym (take_more vs i v h))

slot_grown : (xs : List (Option Value)) (m : ℕ) → slots_of (xs ++ None ∷ []) m ≡ slots_of xs m
slot_grown [] zero = refl
slot_grown [] (suc m) = refl
slot_grown (x ∷ xs) zero = refl
slot_grown (x ∷ xs) (suc m) = slot_grown xs m

-- a slot that holds nothing makes no difference
pub slots_grown : (xs : List (Option Value)) → slots_of (xs ++ None ∷ []) ≡ slots_of xs
slots_grown xs = λ i m. slot_grown xs m i

slot_push : (xs : List (Option Value)) (v : Value) (m : ℕ)
    → slots_of (xs ++ Some v ∷ []) m ≡ set_at (slots_of xs) (length xs) (Some v) m
slot_push [] v zero = refl
slot_push [] v (suc m) = grind arith
slot_push (x ∷ xs) v zero = grind arith
slot_push (x ∷ xs) v (suc m) = rw (eqb-suc-suc m (length xs)) (slot_push xs v m)

-- one more slot
pub slots_push : (xs : List (Option Value)) (v : Value)
    → slots_of (xs ++ Some v ∷ []) ≡ set_at (slots_of xs) (length xs) (Some v)
slots_push xs v = λ i m. slot_push xs v m i

slot_set : (xs : List (Option Value)) (n : ℕ) (v : Value) (m : ℕ) → n < length xs
    → slots_of (slice_set xs n (Some v)) m ≡ set_at (slots_of xs) n (Some v) m
slot_set [] n v m h = grind arith
slot_set (x ∷ xs) zero v zero h = refl
slot_set (x ∷ xs) zero v (suc m) h = grind arith
slot_set (x ∷ xs) (suc n) v zero h = grind arith
slot_set (x ∷ xs) (suc n) v (suc m) h = rw (eqb-suc-suc m n) (slot_set xs n v m (grind arith))

-- another value in a slot
pub slots_set : (xs : List (Option Value)) (n : ℕ) (v : Value) → n < length xs
    → slots_of (slice_set xs n (Some v)) ≡ set_at (slots_of xs) n (Some v)
slots_set xs n v h = λ i m. slot_set xs n v m h i

by_width : (n : ℕ) (vs : List Value) (v : Value) (k : ℕ) (x : Option Value) (wide same : Bool) → same ≡ false
    → (wide ≡ true → slots_from (n + 2) vs k ≡ x) → (wide ≡ false → slots_from (n + 1) vs k ≡ x)
    → (if same then Some v else slots_from (if wide then n + 2 else n + 1) vs k) ≡ x
by_width n vs v k x true true e p q = let f : true ≡ false = e in cc
by_width n vs v k x false true e p q = let f : true ≡ false = e in cc
by_width n vs v k x true false e p q = p refl
by_width n vs v k x false false e p q = q refl

-- slots before the first one hold nothing
slots_before : (n : ℕ) (vs : List Value) (k : ℕ) → k < n → slots_from n vs k ≡ None
slots_before n [] k h = refl
slots_before n (v ∷ vs) k h = by_width n vs v k None (is_wide v) (k == n) (ne_eqb k n (λ e. omega arith))
    (λ w. slots_before (n + 2) vs k (omega arith)) (λ w. slots_before (n + 1) vs k (omega arith))

if_same : (b : Bool) (x y : Option Value) → b ≡ true → x ≡ (if b then x else y)
if_same true x y e = refl
if_same false x y e = let f : false ≡ true = e in cc

slots_at : (n : ℕ) (vs : List Value) (m k : ℕ) → k ≡ n + m → slots_of (cells vs) m ≡ slots_from n vs k
slots_at n [] m k h = refl
slots_at n (v ∷ vs) zero k h =
    if_same (k == n) (Some v) (slots_from (if is_wide v then n + 2 else n + 1) vs k) (eq-eqb k n (omega arith))
slots_at n (v ∷ vs) (suc zero) k h = sym (by_width n vs v k (slots_of (cells (v ∷ vs)) 1) (is_wide v) (k == n)
    (ne_eqb k n (λ e. omega arith))
    (λ w. slots_before (n + 2) vs k (omega arith) ∙ at_wide w)
    (λ w. sym (slots_at (n + 1) vs 0 k (omega arith)) ∙ at_narrow w))
  where
    at_wide : is_wide v ≡ true → None ≡ slots_of (cells (v ∷ vs)) 1
    at_wide w = rw w refl

    at_narrow : is_wide v ≡ false → slots_of (cells vs) 0 ≡ slots_of (cells (v ∷ vs)) 1
    at_narrow w = rw w refl
slots_at n (v ∷ vs) (suc (suc m)) k h = sym (by_width n vs v k (slots_of (cells (v ∷ vs)) (suc (suc m))) (is_wide v)
    (k == n) (ne_eqb k n (λ e. omega arith))
    (λ w. sym (slots_at (n + 2) vs m k (omega arith)) ∙ at_wide w)
    (λ w. sym (slots_at (n + 1) vs (suc m) k (omega arith)) ∙ at_narrow w))
  where
    at_wide : is_wide v ≡ true → slots_of (cells vs) m ≡ slots_of (cells (v ∷ vs)) (suc (suc m))
    at_wide w = rw w refl

    at_narrow : is_wide v ≡ false → slots_of (cells vs) (suc m) ≡ slots_of (cells (v ∷ vs)) (suc (suc m))
    at_narrow w = rw w refl

-- arguments in a list of slots hold what they hold by their slots
pub cells_are_slots : (vs : List Value) → slots_of (cells vs) ≡ slots_from 0 vs
cells_are_slots vs = λ i m. slots_at 0 vs m m (omega arith) i
