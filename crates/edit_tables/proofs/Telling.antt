-- Tests that tell whether something holds.
use Rattle.std.proofs.Common.{ℕ, Bool, true, false, ◌≡◌, ◌≢◌, ◌⊎◌, inl, inr, refl, List, Some}
use Rattle.std.specs.Prelude.{nat_eq, not, slice_get, ◌&&◌, ◌==◌}
use Rattle.std.specs.List.{list_any}
use Rattle.std.proofs.Common.{ap, sym, ◌∙◌}
use Rattle.std.proofs.lemmas.Bool.Decides.{eqb_tells}
use Rattle.jv_base.proofs.Lists.{any_at, any_where}

-- the test answers yes exactly where this holds
abbrev pub Tells : Bool → Type 0 → Type 0
Tells b P = ((b ≡ true) × P) ⊎ ((b ≡ false) × (P → ⊥))

pub tells : (b : Bool) (P : Type 0) → (b ≡ true → P) → (P → b ≡ true) → Tells b P
tells true P f g = inl (refl, f refl)
tells false P f g = inr (refl, λ p. let q = g p in absurd cc)

pub told : (b : Bool) (P : Type 0) → Tells b P → b ≡ true → P
told b P (inl h) e = h.1
told b P (inr h) e = absurd cc

pub untold : (b : Bool) (P : Type 0) → Tells b P → b ≡ false → P → ⊥
untold b P (inl h) e p = absurd cc
untold b P (inr h) e p = h.1 p

pub both : (a b : Bool) → (a && b) ≡ true → (a ≡ true) × (b ≡ true)
both true b e = (refl, e)
both false b e = absurd cc

pub and_both : (a b : Bool) → a ≡ true → b ≡ true → (a && b) ≡ true
and_both true b p q = q
and_both false b p q = absurd cc

pub un_not : (b : Bool) → not b ≡ true → b ≡ false
un_not true e = absurd cc
un_not false e = refl

pub is_not : (b : Bool) → b ≡ false → not b ≡ true
is_not true e = absurd cc
is_not false e = refl

-- a test that isn't true is false
pub is_false : (b : Bool) → (b ≡ true → ⊥) → b ≡ false
is_false true f = absurd (f refl)
is_false false f = refl

pub same_number : (n : ℕ) → nat_eq n n ≡ true
same_number n = by (eqb_tells n n)
  where
    by : ((nat_eq n n ≡ true) × (n ≡ n)) ⊎ ((nat_eq n n ≡ false) × (n ≢ n)) → nat_eq n n ≡ true
    by (inl p) = p.0
    by (inr p) = absurd (p.1 refl)

pub numbers_same : (n m : ℕ) → nat_eq n m ≡ true → n ≡ m
numbers_same n m e = by (eqb_tells n m)
  where
    by : ((nat_eq n m ≡ true) × (n ≡ m)) ⊎ ((nat_eq n m ≡ false) × (n ≢ m)) → n ≡ m
    by (inl p) = p.1
    by (inr p) = absurd (let no : true ≡ false = sym e ∙ p.0 in cc)

pub in_list : (n : ℕ) (xs : List ℕ) → list_any (nat_eq n) xs ≡ true
    → (k : ℕ) × (slice_get xs k ≡ Some n)
in_list n xs e =
    let x = any_where (nat_eq n) xs e in (x.0, x.2 ∙ ap Some (sym (numbers_same n x.1 x.3)))

pub list_has : (n : ℕ) (xs : List ℕ) (k : ℕ) → slice_get xs k ≡ Some n
    → list_any (nat_eq n) xs ≡ true
list_has n xs k e = any_at (nat_eq n) xs k n e (same_number n)

-- which of two numbers stands first is the same
pub turned : (a b : ℕ) → (a == b) ≡ (b == a)
turned a b = by (a == b) refl (b == a) refl
  where
    by : (c : Bool) → (a == b) ≡ c → (d : Bool) → (b == a) ≡ d → c ≡ d
    by true p true q = refl
    by false p false q = refl
    by true p false q =
        let e = numbers_same a b p in
        let no : true ≡ false = sym (same_number b) ∙ ap (nat_eq b) (sym e) ∙ q in absurd cc
    by false p true q =
        let e = numbers_same b a q in
        let no : true ≡ false = sym (same_number a) ∙ ap (nat_eq a) (sym e) ∙ p in absurd cc
