-- Which stretches begin up to a place.
use Rattle.std.proofs.Common.{ℕ, suc, ◌<◌, ◌≤◌, Bool, true, false, ◌≡◌, ◌≢◌, ◌⊎◌, inl, inr}
use Rattle.std.proofs.Common.{refl, sym, ◌∙◌, arith}
use Rattle.std.specs.Prelude.{nat_eq, nat_le, nat_lt, ◌&&◌, ◌||◌}
use Rattle.std.proofs.lemmas.Bool.Decides.{eqb_tells, leb_tells}
use Rattle.const_tables.specs.declared.facts.Stretch.{Stretch}
use Rattle.const_tables.specs.Stretches.{is_up_to}

-- of places, by local variable and then index, the one is the other or before it
abbrev pub UpTo : ℕ → ℕ → ℕ → ℕ → Type 0
UpTo slot at slot' at' = (slot < slot') ⊎ ((slot ≡ slot') × (at ≤ at'))

pub up_trans : (s a t b u c : ℕ) → UpTo s a t b → UpTo t b u c → UpTo s a u c
up_trans s a t b u c (inl p) (inl q) = inl (omega (arith, p, q))
up_trans s a t b u c (inl p) (inr q) = inl (omega (arith, p, q.0))
up_trans s a t b u c (inr p) (inl q) = inl (omega (arith, p.0, q))
up_trans s a t b u c (inr p) (inr q) = inr (p.0 ∙ q.0, omega (arith, p.1, q.1))

-- a place that isn't up to another one is behind it
pub up_other : (s a t b : ℕ) → (UpTo s a t b → ⊥) → UpTo t b s a
up_other s a t b never = by (leb_tells (suc s) t) (leb_tells (suc t) s) (leb_tells a b)
  where
    by : ((nat_le (suc s) t ≡ true) × (suc s ≤ t)) ⊎ ((nat_le (suc s) t ≡ false) × (t < suc s))
        → ((nat_le (suc t) s ≡ true) × (suc t ≤ s)) ⊎ ((nat_le (suc t) s ≡ false) × (s < suc t))
        → ((nat_le a b ≡ true) × (a ≤ b)) ⊎ ((nat_le a b ≡ false) × (b < a)) → UpTo t b s a
    by (inl p) q r = absurd (never (inl (omega (arith, p.1))))
    by (inr p) (inl q) r = inl (omega (arith, q.1))
    by (inr p) (inr q) (inl r) = absurd (never (inr (omega (arith, p.1, q.1), r.1)))
    by (inr p) (inr q) (inr r) = inr (omega (arith, p.1, q.1), omega (arith, r.1))

pub up_told : (x : Stretch) (slot at : ℕ) → is_up_to x slot at ≡ true → UpTo x.slot x.at slot at
up_told x slot at e = by (nat_lt x.slot slot) refl (leb_tells (suc x.slot) slot) e
  where
    second : (b c : Bool) → (b && c) ≡ true → (b ≡ true) × (c ≡ true)
    second true c e = (refl, e)
    second false c e = absurd cc

    equal : nat_eq x.slot slot ≡ true → x.slot ≡ slot
    equal q = of (eqb_tells x.slot slot)
      where
        of : ((nat_eq x.slot slot ≡ true) × (x.slot ≡ slot))
            ⊎ ((nat_eq x.slot slot ≡ false) × (x.slot ≢ slot)) → x.slot ≡ slot
        of (inl p) = p.1
        of (inr p) = absurd (let no : true ≡ false = sym q ∙ p.0 in cc)

    below : nat_le x.at at ≡ true → x.at ≤ at
    below q = of (leb_tells x.at at)
      where
        of : ((nat_le x.at at ≡ true) × (x.at ≤ at)) ⊎ ((nat_le x.at at ≡ false) × (at < x.at))
            → x.at ≤ at
        of (inl p) = p.1
        of (inr p) = absurd (let no : true ≡ false = sym q ∙ p.0 in cc)

    by : (b : Bool) → nat_lt x.slot slot ≡ b
        → ((nat_le (suc x.slot) slot ≡ true) × (suc x.slot ≤ slot))
        ⊎ ((nat_le (suc x.slot) slot ≡ false) × (slot < suc x.slot))
        → (b || (nat_eq x.slot slot && nat_le x.at at)) ≡ true → UpTo x.slot x.at slot at
    by true q (inl p) e = inl (omega (arith, p.1))
    by true q (inr p) e = absurd (let no : true ≡ false = sym q ∙ p.0 in cc)
    by false q p e = let r = second _ _ e in inr (equal r.0, below r.1)

pub up_is : (x : Stretch) (slot at : ℕ) → UpTo x.slot x.at slot at → is_up_to x slot at ≡ true
up_is x slot at (inl lt) = first (nat_lt x.slot slot) (of (leb_tells (suc x.slot) slot))
  where
    of : ((nat_le (suc x.slot) slot ≡ true) × (suc x.slot ≤ slot))
        ⊎ ((nat_le (suc x.slot) slot ≡ false) × (slot < suc x.slot)) → nat_lt x.slot slot ≡ true
    of (inl p) = p.0
    of (inr p) = absurd (omega (arith, p.1, lt))

    first : (b : Bool) → b ≡ true → (b || (nat_eq x.slot slot && nat_le x.at at)) ≡ true
    first true e = refl
    first false e = absurd cc
up_is x slot at (inr q) = last (nat_lt x.slot slot) _ _ (same (eqb_tells x.slot slot))
    (below (leb_tells x.at at))
  where
    same : ((nat_eq x.slot slot ≡ true) × (x.slot ≡ slot))
        ⊎ ((nat_eq x.slot slot ≡ false) × (x.slot ≢ slot)) → nat_eq x.slot slot ≡ true
    same (inl p) = p.0
    same (inr p) = absurd (p.1 q.0)

    below : ((nat_le x.at at ≡ true) × (x.at ≤ at)) ⊎ ((nat_le x.at at ≡ false) × (at < x.at))
        → nat_le x.at at ≡ true
    below (inl p) = p.0
    below (inr p) = absurd (omega (arith, p.1, q.1))

    last : (a b c : Bool) → b ≡ true → c ≡ true → (a || (b && c)) ≡ true
    last true b c p r = refl
    last false true true p r = refl
    last false true false p r = absurd cc
    last false false c p r = absurd cc

pub not_up : (x : Stretch) (slot at : ℕ) → (UpTo x.slot x.at slot at → ⊥)
    → is_up_to x slot at ≡ false
not_up x slot at never = by (is_up_to x slot at) refl
  where
    by : (b : Bool) → is_up_to x slot at ≡ b → b ≡ false
    by true e = absurd (never (up_told x slot at e))
    by false e = refl
