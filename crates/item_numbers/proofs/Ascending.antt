-- Ascending numbers: two lists with the same numbers are one.
use Rattle.std.proofs.Common.{◌≡◌, ℕ, ◌<◌, ◌==◌, ◌||◌, Bool, true, false, cond, List, [], ◌∷◌}
use Rattle.std.proofs.Common.{refl, sym, ap, subst, ◌∙◌, arith, ◌⊎◌, inl, inr}
use Rattle.std.specs.Prelude.{nat_lt}
use Rattle.std.specs.List.{AllByRecursion}
use Rattle.std.proofs.lemmas.Bool.{cases_order, eq-eqb, eqb-true, lt-ltb, le-ltb, ne_eqb}
use Rattle.jv_base.proofs.Tests.{or_swap}
use Rattle.require_sys.specs.Requires.{ascending, put}
use Rattle.item_numbers.specs.bodies.Wanting.{has}

-- each number is below those behind it
abbrev pub Rising : List ℕ → Type 0
Rising [] = Unit {0}
Rising (x ∷ xs) = AllByRecursion (λ y. x < y) xs × Rising xs

-- ---- numbers that stand in a list

pub itself : (x : ℕ) → (x == x) ≡ true
itself x = eq-eqb x x refl

pub above_all : (x y : ℕ) (ys : List ℕ) → x < y → AllByRecursion (λ z. y < z) ys → AllByRecursion (λ z. x < z) ys
above_all x y [] lt h = tt
above_all x y (z ∷ zs) lt h = (omega (arith, lt, h.0), above_all x y zs lt h.1)

absent : (x : ℕ) (ys : List ℕ) → AllByRecursion (λ y. x < y) ys → has x ys ≡ false
absent x [] h = refl
absent x (y ∷ ys) h =
    ap (λ (b : Bool). b || has x ys) (ne_eqb x y (λ e. absurd (omega (arith, e, h.0)))) ∙ absent x ys h.1

absent_first : (x y : ℕ) (ys : List ℕ) → x < y → AllByRecursion (λ z. y < z) ys → has x (y ∷ ys) ≡ false
absent_first x y ys lt h = absent x (y ∷ ys) (lt, above_all x y ys lt h)

pub never_both : {P : Type 0} → true ≡ false → P
never_both h = absurd cc

first_there : (x : ℕ) (xs : List ℕ) → has x (x ∷ xs) ≡ true
first_there x xs = ap (λ (b : Bool). b || has x xs) (itself x)

tail_has : (x : ℕ) (xs ys : List ℕ) → AllByRecursion (λ y. x < y) xs → AllByRecursion (λ y. x < y) ys
    → ((z : ℕ) → has z (x ∷ xs) ≡ has z (x ∷ ys)) → (z : ℕ) → has z xs ≡ has z ys
tail_has x xs ys above over same z = by (z == x) refl (same z)
  where
    by : (b : Bool) → (z == x) ≡ b → (b || has z xs) ≡ (b || has z ys) → has z xs ≡ has z ys
    by true e h =
        let is : z ≡ x = eqb-true z x e in
        subst (λ (k : ℕ). has k xs ≡ has k ys) (sym is) (absent x xs above ∙ sym (absent x ys over))
    by false e h = h

pub unique : (xs ys : List ℕ) → Rising xs → Rising ys → ((x : ℕ) → has x xs ≡ has x ys) → xs ≡ ys
unique [] [] r s same = refl
unique [] (y ∷ ys) r s same = never_both (sym (first_there y ys) ∙ sym (same y))
unique (x ∷ xs) [] r s same = never_both (sym (first_there x xs) ∙ same x)
unique (x ∷ xs) (y ∷ ys) r s same = by (cases_order x y) (λ tails. unique xs ys r.1 s.1 tails)
  where
    by : (x ≡ y) ⊎ ((x < y) ⊎ (y < x)) → (((z : ℕ) → has z xs ≡ has z ys) → xs ≡ ys) → (x ∷ xs) ≡ (y ∷ ys)
    by (inl e) rest =
        let over : AllByRecursion (λ z. x < z) ys = subst (λ (k : ℕ). AllByRecursion (λ z. k < z) ys) (sym e) s.0 in
        let tails : xs ≡ ys =
        rest (tail_has x xs ys r.0 over (λ z. same z ∙ ap (λ (k : ℕ). has z (k ∷ ys)) (sym e))) in
        λ i. e i ∷ tails i
    by (inr (inl lt)) rest = never_both (sym (first_there x xs) ∙ same x ∙ absent_first x y ys lt s.0)
    by (inr (inr lt)) rest = never_both (sym (first_there y ys) ∙ sym (same y) ∙ absent_first y x xs lt r.0)

-- ---- the numbers of a list, ascending

abbrev step : ℕ → ℕ → List ℕ → Bool → Bool → List ℕ
step x y ys less same = cond less (x ∷ (y ∷ ys)) (cond same (y ∷ ys) (y ∷ put x ys))

above_put : (z x : ℕ) (ys : List ℕ) → z < x → AllByRecursion (λ y. z < y) ys → AllByRecursion (λ y. z < y) (put x ys)
above_put z x [] lt h = (lt, tt)
above_put z x (y ∷ ys) lt h = by (nat_lt x y) (x == y) (above_put z x ys lt h.1)
  where
    by : (less same : Bool) → AllByRecursion (λ k. z < k) (put x ys) → AllByRecursion (λ k. z < k)
        (step x y ys less same)
    by true same r = (lt, h)
    by false true r = h
    by false false r = (h.0, r)

rising_put : (x : ℕ) (ys : List ℕ) → Rising ys → Rising (put x ys)
rising_put x [] h = (tt, tt)
rising_put x (y ∷ ys) h = by (cases_order x y) (rising_put x ys h.1)
  where
    at : (less same : Bool) → nat_lt x y ≡ less → (x == y) ≡ same → put x (y ∷ ys) ≡ step x y ys less same
    at less same e f = λ i. step x y ys (e i) (f i)

    by : (x ≡ y) ⊎ ((x < y) ⊎ (y < x)) → Rising (put x ys) → Rising (put x (y ∷ ys))
    by (inl e) rest = subst Rising (sym (at false true (le-ltb x y (omega (arith, e))) (eq-eqb x y e))) h
    by (inr (inl lt)) rest =
        subst Rising (sym (at true false (lt-ltb x y lt) (ne_eqb x y (λ e. absurd (omega (arith, e, lt))))))
        ((lt, above_all x y ys lt h.0), h)
    by (inr (inr lt)) rest =
        subst Rising (sym (at false false (le-ltb x y (omega (arith, lt))) (ne_eqb x y (λ e. absurd (omega
        (arith, e, lt))))))
        (above_put y x ys lt h.0, rest)

pub rising_ascending : (xs : List ℕ) → Rising (ascending xs)
rising_ascending [] = tt
rising_ascending (x ∷ xs) = rising_put x (ascending xs) (rising_ascending xs)

has_put : (z x : ℕ) (ys : List ℕ) → has z (put x ys) ≡ ((z == x) || has z ys)
has_put z x [] = refl
has_put z x (y ∷ ys) = by (nat_lt x y) (x == y) refl (has_put z x ys)
  where
    twice : (a c : Bool) → (a || c) ≡ (a || (a || c))
    twice true c = refl
    twice false c = refl

    by : (less same : Bool) → (x == y) ≡ same → has z (put x ys) ≡ ((z == x) || has z ys)
        → has z (step x y ys less same) ≡ ((z == x) || ((z == y) || has z ys))
    by true same e r = refl
    by false true e r =
        twice (z == y) (has z ys)
        ∙ ap (λ (k : ℕ). (z == k) || ((z == y) || has z ys)) (sym (eqb-true x y e))
    by false false e r = ap (λ (b : Bool). (z == y) || b) r ∙ or_swap (z == y) (z == x) (has z ys)

pub has_ascending : (z : ℕ) (xs : List ℕ) → has z (ascending xs) ≡ has z xs
has_ascending z [] = refl
has_ascending z (x ∷ xs) = has_put z x (ascending xs) ∙ ap (λ (b : Bool). (z == x) || b) (has_ascending z xs)

-- lists with the same numbers give the same ascending ones
pub ascending_same : (xs ys : List ℕ) → ((x : ℕ) → has x xs ≡ has x ys) → ascending xs ≡ ascending ys
ascending_same xs ys same =
    unique (ascending xs) (ascending ys) (rising_ascending xs) (rising_ascending ys)
    (λ x. has_ascending x xs ∙ same x ∙ sym (has_ascending x ys))
