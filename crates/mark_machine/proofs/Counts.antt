-- Sums over items and over views.
use Rattle.std.proofs.Common.{◌≡◌, ◌≢◌, ◌⊎◌, ℕ, zero, suc, ◌+◌, ◌<◌, ◌≤◌, Bool, true, false, IsTrue, List, []}
use Rattle.std.proofs.Common.{◌∷◌, ◌++◌, length, set, inl, inr, ⊎_elim, subst, sym, ◌∙◌, ap, refl, arith, eqb}
use Rattle.std.proofs.Common.{eq-eqb, ne_eqb}
use Rattle.std.proofs.lemmas.Bool.{cases_eq}
use Rattle.std.specs.List.{All, Contains}
use Rattle.std.proofs.lemmas.List.Elements.{All-head, All-tail}
use mathlib.Core.Option.{some, some-injective, some-ne-none}
use lib.ListN.{get_elem?}
use Rattle.mark_machine.specs.Counts.{bit, sums, count, times, total, SomeView, EachView}

pub bit_le : (b : Bool) → bit b ≤ 1
bit_le true = omega arith
bit_le false = omega arith

pub bit_true : (b : Bool) → 0 < bit b → IsTrue b
bit_true true h = refl
bit_true false h = absurd (omega (arith, h))

pub bit_false : (b : Bool) → (IsTrue b → ⊥) → b ≡ false
bit_false true h = absurd (h refl)
bit_false false h = refl

-- ---- over the numbers below n
pub sums_le : (n : ℕ) (f g : ℕ → ℕ) → ((x : ℕ) → f x ≤ g x) → sums n f ≤ sums n g
sums_le zero f g h = omega arith
sums_le (suc n) f g h = let a : sums n f ≤ sums n g = sums_le n f g h in let b : f n ≤ g n = h n in
    omega (arith, a, b)

pub sums_tight : (n : ℕ) (f g : ℕ → ℕ) → ((x : ℕ) → f x ≤ g x) → sums n g ≤ sums n f → (x : ℕ) → x < n → g x ≤ f x
sums_tight zero f g h t x lt = absurd (omega (arith, lt))
sums_tight (suc n) f g h t x lt =
    let a : sums n f ≤ sums n g = sums_le n f g h in
    let b : f n ≤ g n = h n in
    ⊎_elim (λ e. subst (λ k. g k ≤ f k) (sym e) (omega (arith, a, b, t)))
    (λ ne. sums_tight n f g h (omega (arith, a, b, t)) x (omega (arith, lt, ne))) (cases_eq x n)

pub sums_add : (n : ℕ) (f g : ℕ → ℕ) → sums n (λ x. f x + g x) ≡ sums n f + sums n g
sums_add zero f g = refl
sums_add (suc n) f g = let a : sums n (λ x. f x + g x) ≡ sums n f + sums n g = sums_add n f g in omega (arith, a)

pub sums_zero : (n : ℕ) → sums n (λ x. 0) ≡ 0
sums_zero zero = refl
sums_zero (suc n) = let a : sums n (λ x. 0) ≡ 0 = sums_zero n in omega (arith, a)

sums_none : (n x : ℕ) → n ≤ x → sums n (λ y. bit (eqb x y)) ≡ 0
sums_none zero x h = refl
sums_none (suc n) x h =
    let a : sums n (λ y. bit (eqb x y)) ≡ 0 = sums_none n x (omega (arith, h)) in
    let b : bit (eqb x n) ≡ 0 = ap bit (ne_eqb x n (λ e. omega (arith, h, e))) in
    omega (arith, a, b)

sums_one : (n x : ℕ) → x < n → sums n (λ y. bit (eqb x y)) ≡ 1
sums_one zero x h = absurd (omega (arith, h))
sums_one (suc n) x h = ⊎_elim
    (λ e. let a : sums n (λ y. bit (eqb x y)) ≡ 0 = sums_none n x (omega (arith, e)) in
    let b : bit (eqb x n) ≡ 1 = ap bit (eq-eqb x n e) in omega (arith, a, b))
    (λ ne. let a : sums n (λ y. bit (eqb x y)) ≡ 1 = sums_one n x (omega (arith, h, ne)) in
    let b : bit (eqb x n) ≡ 0 = ap bit (ne_eqb x n ne) in omega (arith, a, b))
    (cases_eq x n)

pub sums_times : (n : ℕ) (l : List ℕ) → All (λ x. x < n) l → sums n (λ x. times x l) ≡ length l
sums_times n [] h = sums_zero n
sums_times n (y ∷ ys) h =
    let a : sums n (λ x. bit (eqb y x) + times x ys) ≡ sums n (λ x. bit (eqb y x)) + sums n (λ x. times x ys) =
    sums_add n (λ x. bit (eqb y x)) (λ x. times x ys) in
    let b : sums n (λ x. bit (eqb y x)) ≡ 1 = sums_one n y (All-head (λ x. x < n) y ys h) in
    let d : sums n (λ x. times x ys) ≡ length ys = sums_times n ys (All-tail (λ x. x < n) y ys h) in
    omega (arith, a, b, d)

-- one more in the set
count_past : (n x : ℕ) (set more : ℕ → Bool) → ((y : ℕ) → y ≢ x → more y ≡ set y) → n ≤ x → count n more ≡ count n set
count_past zero x set more e h = refl
count_past (suc n) x set more e h =
    let a : count n more ≡ count n set = count_past n x set more e (omega (arith, h)) in
    let b : bit (more n) ≡ bit (set n) = ap bit (e n (λ p. omega (arith, h, p))) in
    omega (arith, a, b)

pub count_more : (n x : ℕ) (set more : ℕ → Bool) → ((y : ℕ) → y ≢ x → more y ≡ set y) → set x ≡ false
    → more x ≡ true → x < n → count n more ≡ count n set + 1
count_more zero x set more e f t h = absurd (omega (arith, h))
count_more (suc n) x set more e f t h = ⊎_elim
    (λ p. let a : count n more ≡ count n set = count_past n x set more e (omega (arith, p)) in
    let b : bit (more n) ≡ 1 = ap bit (subst (λ k. more k ≡ true) p t) in
    let d : bit (set n) ≡ 0 = ap bit (subst (λ k. set k ≡ false) p f) in omega (arith, a, b, d))
    (λ ne. let a : count n more ≡ count n set + 1 = count_more n x set more e f t (omega (arith, h, ne)) in
    let b : bit (more n) ≡ bit (set n) = ap bit (e n (λ p. ne (sym p))) in omega (arith, a, b))
    (cases_eq x n)

-- ---- how often a number stands in a list
pub times_from_contains : (x : ℕ) (l : List ℕ) → Contains l x → 0 < times x l
times_from_contains x [] (k, lt, e) = absurd (omega (arith, lt))
times_from_contains x (y ∷ ys) (zero, lt, e) = let b : bit (eqb y x) ≡ 1 = ap bit (eq-eqb y x e) in omega (arith, b)
times_from_contains x (y ∷ ys) (suc k, lt, e) = let a : 0 < times x ys = times_from_contains x ys
    (k, omega (arith, lt), e) in omega (arith, a)

pub contains_from_times : (x : ℕ) (l : List ℕ) → 0 < times x l → Contains l x
contains_from_times x [] h = absurd (omega (arith, h))
contains_from_times x (y ∷ ys) h = ⊎_elim
    (λ e. (0, omega arith, e))
    (λ ne. let b : bit (eqb y x) ≡ 0 = ap bit (ne_eqb y x ne) in
    let r : Contains ys x = contains_from_times x ys (omega (arith, h, b)) in
    (suc r.0, (let lt : r.0 < length ys = r.1 in omega (arith, lt)), r.2))
    (cases_eq y x)

pub times_push : (x y : ℕ) (l : List ℕ) → times x (l ++ y ∷ []) ≡ times x l + bit (eqb y x)
times_push x y [] = omega arith
times_push x y (z ∷ zs) = let a : times x (zs ++ y ∷ []) ≡ times x zs + bit (eqb y x) = times_push x y zs in
    omega (arith, a)

-- ---- over the views
module _ {V : Type 0} where
  pub total_set : (f : V → ℕ) (vs : List V) (id : ℕ) (v w : V) → get_elem? vs id ≡ some v
      → total f (set vs id w) + f v ≡ total f vs + f w
  total_set f [] id v w e = absurd (some-ne-none v (sym e))
  total_set f (u ∷ us) zero v w e = let a : f u ≡ f v = ap f (some-injective u v e) in omega (arith, a)
  total_set f (u ∷ us) (suc id) v w e = let a : total f (set us id w) + f v ≡ total f us + f w = total_set f us id v
      w e in omega (arith, a)

  pub total_at : (f : V → ℕ) (vs : List V) (id : ℕ) (v : V) → get_elem? vs id ≡ some v → f v ≤ total f vs
  total_at f [] id v e = absurd (some-ne-none v (sym e))
  total_at f (u ∷ us) zero v e = let a : f u ≡ f v = ap f (some-injective u v e) in omega (arith, a)
  total_at f (u ∷ us) (suc id) v e = let a : f v ≤ total f us = total_at f us id v e in omega (arith, a)

  pub total_some : (f : V → ℕ) (vs : List V) → 0 < total f vs → SomeView (λ v. 0 < f v) vs
  total_some f [] h = absurd (omega (arith, h))
  total_some f (u ∷ us) h = ⊎_elim
      (λ e. let r = total_some f us (omega (arith, h, e)) in (suc r.0, r.1, r.2, r.3))
      (λ ne. (0, u, refl, omega (arith, ne)))
      (cases_eq (f u) 0)

  pub total_push : (f : V → ℕ) (vs : List V) (v : V) → total f (vs ++ v ∷ []) ≡ total f vs + f v
  total_push f [] v = omega arith
  total_push f (u ∷ us) v = let a : total f (us ++ v ∷ []) ≡ total f us + f v = total_push f us v in omega (arith, a)

  pub total_le : (f g : V → ℕ) (vs : List V) → EachView (λ v. f v ≤ g v) vs → total f vs ≤ total g vs
  total_le f g [] h = omega arith
  total_le f g (u ∷ us) h = let a : total f us ≤ total g us = total_le f g us (λ id v e. h (suc id) v e) in
      let b : f u ≤ g u = h 0 u refl in omega (arith, a, b)

  pub sums_total : (n : ℕ) (items : V → List ℕ) (vs : List V) → EachView (λ v. All (λ x. x < n) (items v)) vs
      → sums n (λ x. total (λ v. times x (items v)) vs) ≡ total (λ v. length (items v)) vs
  sums_total n items [] h = sums_zero n
  sums_total n items (u ∷ us) h =
      let a : sums n (λ x. times x (items u) + total (λ v. times x (items v)) us) ≡ sums n (λ x. times x (items u))
      + sums n (λ x. total (λ v. times x (items v)) us) =
      sums_add n (λ x. times x (items u)) (λ x. total (λ v. times x (items v)) us) in
      let b : sums n (λ x. times x (items u)) ≡ length (items u) = sums_times n (items u) (h 0 u refl) in
      let d : sums n (λ x. total (λ v. times x (items v)) us) ≡ total (λ v. length (items v)) us = sums_total n
      items us (λ id v e. h (suc id) v e) in
      omega (arith, a, b, d)

  -- ---- one view changed
  pub some_set : (P : V → Type 0) (vs : List V) (id : ℕ) (v w : V) → get_elem? vs id ≡ some v → (P v → P w)
      → SomeView P vs → SomeView P (set vs id w)
  some_set P [] id v w e h s = absurd (some-ne-none v (sym e))
  some_set P (u ∷ us) zero v w e h (zero, x, at, p) =
      (0, w, refl, h (subst P (sym (some-injective u x at) ∙ some-injective u v e) p))
  some_set P (u ∷ us) zero v w e h (suc j, x, at, p) = (suc j, x, at, p)
  some_set P (u ∷ us) (suc id) v w e h (zero, x, at, p) = (0, x, at, p)
  some_set P (u ∷ us) (suc id) v w e h (suc j, x, at, p) = let r = some_set P us id v w e h (j, x, at, p) in
      (suc r.0, r.1, r.2, r.3)

  pub here_set : (P : V → Type 0) (vs : List V) (id : ℕ) (v w : V) → get_elem? vs id ≡ some v → P w
      → SomeView P (set vs id w)
  here_set P [] id v w e p = absurd (some-ne-none v (sym e))
  here_set P (u ∷ us) zero v w e p = (0, w, refl, p)
  here_set P (u ∷ us) (suc id) v w e p = let r = here_set P us id v w e p in (suc r.0, r.1, r.2, r.3)

  pub each_set : (P : V → Type 0) (vs : List V) (id : ℕ) (w : V) → EachView P vs → P w → EachView P (set vs id w)
  each_set P [] id w h p j x at = h j x at
  each_set P (u ∷ us) zero w h p zero x at = subst P (some-injective w x at) p
  each_set P (u ∷ us) zero w h p (suc j) x at = h (suc j) x at
  each_set P (u ∷ us) (suc id) w h p zero x at = h 0 x at
  each_set P (u ∷ us) (suc id) w h p (suc j) x at = each_set P us id w (λ i y b. h (suc i) y b) p j x at

  -- which of the views after the change it was
  pub some_set_cases : (P : V → Type 0) (vs : List V) (id : ℕ) (w : V) → SomeView P (set vs id w) → SomeView P vs
      ⊎ P w
  some_set_cases P [] id w s = inl s
  some_set_cases P (u ∷ us) zero w (zero, x, at, p) = inr (subst P (sym (some-injective w x at)) p)
  some_set_cases P (u ∷ us) zero w (suc j, x, at, p) = inl (suc j, x, at, p)
  some_set_cases P (u ∷ us) (suc id) w (zero, x, at, p) = inl (0, x, at, p)
  some_set_cases P (u ∷ us) (suc id) w (suc j, x, at, p) = ⊎_elim (λ r. inl (suc r.0, r.1, r.2, r.3)) inr
      (some_set_cases P us id w (j, x, at, p))

  pub total_add : (f g : V → ℕ) (vs : List V) → total (λ v. f v + g v) vs ≡ total f vs + total g vs
  total_add f g [] = refl
  total_add f g (u ∷ us) = let a : total (λ v. f v + g v) us ≡ total f us + total g us = total_add f g us in
      omega (arith, a)
