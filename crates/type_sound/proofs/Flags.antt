-- A method that is neither abstract nor native has a code (JVMS 4.7.3).
use Rattle.std.proofs.Common.{◌≡◌, ◌<◌, ◌≤◌, ◌+◌, ◌*◌, ◌||◌, ⊎_elim, ℕ, Bool, true, false, not, refl, sym, ap, ◌∙◌}
use Rattle.std.proofs.Common.{arith}
use Rattle.std.specs.Prelude.{◌/◌, ◌%◌, ◌^◌, ◌==◌, bit_and}
use Rattle.std.specs.Int.Bits.{and_self, and_zero_r}
use Rattle.std.proofs.lemmas.Bool.{and_parts, cases_eq, eqb-true}
use Rattle.std.proofs.lemmas.Nat.{and_assoc, and_block, and_le_r}
use Rattle.class_model.specs.Flags.{acc_abstract, acc_final, acc_native, acc_private, acc_static, acc_strict}
use Rattle.class_model.specs.Flags.{acc_synchronized, are_method_flags, has, has_one_access, has_some}

-- the two flags among the others
record TwoFlags (flags : ℕ) : Type 0 where
  pub bits : ℕ
  pub few : bits ≤ 5
  pub both : bit_and flags 1280 ≡ bits * 256
  pub own : bit_and bits 5 ≡ bits

two_flags : (flags : ℕ) → TwoFlags flags
two_flags flags = record {
  bits = bit_and (flags / 256) 5;
  few = and_le_r (flags / 256) 5;
  both = ap (λ n. bit_and n 1280) whole ∙ and_block 8 (flags / 256) 5 (flags % 256) 0 low (omega arith)
      ∙ ap (λ n. bit_and (flags / 256) 5 * 256 + n) (and_zero_r (flags % 256)) ∙ plain (bit_and (flags / 256) 5 * 256);
  own = and_assoc 5 (flags / 256) 5 ∙ ap (bit_and (flags / 256)) (and_self 5);
} where
  whole : flags ≡ flags / 256 * 2 ^ 8 + flags % 256
  whole = omega arith

  low : flags % 256 < 2 ^ 8
  low = omega arith

  plain : (n : ℕ) → n + 0 ≡ n
  plain n = omega arith

-- what tells one of them
one_flag : (flags part y : ℕ) → bit_and 1280 part ≡ part → bit_and flags 1280 ≡ y * 256
    → (bit_and flags part == part) ≡ (bit_and (y * 256) part == part)
one_flag flags part y inside is = ap (λ n. n == part)
    (ap (bit_and flags) (sym inside) ∙ sym (and_assoc part flags 1280) ∙ ap (λ n. bit_and n part) is)

-- of so few bits none is set
none_set : (y : ℕ) → y ≤ 5 → (bit_and (y * 256) 1024 == 1024) ≡ false → (bit_and (y * 256) 256 == 256) ≡ false
    → bit_and y 5 ≡ y → y ≡ 0
none_set y low a n s = ⊎_elim (λ e. e) (λ e0. ⊎_elim (λ e. absurd (one e)) (λ e1. ⊎_elim (λ e. absurd (two e))
    (λ e2. ⊎_elim (λ e. absurd (three e)) (λ e3. ⊎_elim (λ e. absurd (four e)) (λ e4. absurd (five
    (omega (arith, low, e0, e1, e2, e3, e4)))) (cases_eq y 4)) (cases_eq y 3)) (cases_eq y 2)) (cases_eq y 1))
    (cases_eq y 0)
  where
    one : y ≡ 1 → ⊥
    one e = let q : true ≡ false = sym (ap (λ m. bit_and (m * 256) 256 == 256) e) ∙ n in cc

    two : y ≡ 2 → ⊥
    two e = let q : 0 ≡ 2 = sym (ap (λ m. bit_and m 5) e) ∙ s ∙ e in cc

    three : y ≡ 3 → ⊥
    three e = let q : 1 ≡ 3 = sym (ap (λ m. bit_and m 5) e) ∙ s ∙ e in cc

    four : y ≡ 4 → ⊥
    four e = let q : true ≡ false = sym (ap (λ m. bit_and (m * 256) 1024 == 1024) e) ∙ a in cc

    five : y ≡ 5 → ⊥
    five e = let q : true ≡ false = sym (ap (λ m. bit_and (m * 256) 256 == 256) e) ∙ n in cc

pub no_flags : (flags : ℕ) → has acc_abstract flags ≡ false → has acc_native flags ≡ false
    → has_some (acc_abstract + acc_native) flags ≡ false
no_flags flags abstract native =
    let b = two_flags flags in
    let none = none_set b.bits b.few (sym (one_flag flags 1024 b.bits refl b.both) ∙ abstract)
    (sym (one_flag flags 256 b.bits refl b.both) ∙ native) b.own in
    ap (λ n. not (n == 0)) (b.both ∙ ap (λ m. m * 256) none)

-- a static method isn't abstract (JVMS 4.6)
pub static_concrete : (flags : ℕ) → has acc_static flags ≡ true → are_method_flags flags ≡ true
    → has acc_abstract flags ≡ false
static_concrete flags s h = by (has acc_abstract flags) (has_some
    (acc_private + acc_static + acc_final + acc_synchronized + acc_native + acc_strict) flags) refl
    (and_parts (has_one_access flags) _ h).1
  where
    zero_is : (n : ℕ) → not (n == 0) ≡ false → n ≡ 0
    zero_is n e = eqb-true n 0 (told (n == 0) e) where
      told : (b : Bool) → not b ≡ false → b ≡ true
      told true q = refl
      told false q = absurd cc

    none : (n : ℕ) → bit_and n 2362 ≡ 0 → bit_and n 8 ≡ 8 → ⊥
    none n e q = apart (bit_and n 8) q (sym (and_assoc 8 n 2362) ∙ ap (λ m. bit_and m 8) e) where
      apart : (m : ℕ) → m ≡ 8 → m ≡ 0 → ⊥
      apart m p z = cc

    by : (a b : Bool)
        → has_some (acc_private + acc_static + acc_final + acc_synchronized + acc_native + acc_strict) flags ≡ b
        → (not a || not b) ≡ true → a ≡ false
    by false b e k = refl
    by true true e k = absurd cc
    by true false e k = absurd (none flags (zero_is (bit_and flags 2362) e) (eqb-true (bit_and flags 8) 8 s))
