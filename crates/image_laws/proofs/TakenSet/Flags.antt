-- What the format says of flags (JVMS 4.5, 4.6).
use Rattle.std.proofs.Common.{◌≡◌, ◌<◌, ◌+◌, ⊎_elim, ℕ, nat_lt, eqb, Bool, true, false, ◌||◌, refl, sym, ap}
use Rattle.std.proofs.Common.{◌∙◌}
use Rattle.std.proofs.Common.{arith}
use Rattle.std.specs.Int.Bits.{bit_and, and_zero_l}
use Rattle.std.proofs.lemmas.Bool.{cases_eq, eq-eqb, eqb-true, ltb-true, not-false}
use Rattle.std.proofs.lemmas.Nat.{and_assoc}
use Rattle.class_model.specs.Flags.{access_of, acc_final, acc_native, acc_private, acc_protected}
use Rattle.class_model.specs.Flags.{acc_public, acc_static, acc_strict, acc_synchronized, has, has_one_access, has_some}

-- a part of flags that are all set is set
pub has_part : (whole part flags : ℕ) → bit_and whole part ≡ part → has whole flags ≡ true → has part flags ≡ true
has_part whole part flags e h =
    eq-eqb (bit_and flags part) part
    (ap (bit_and flags) (sym e) ∙ sym (and_assoc part flags whole)
    ∙ ap (λ (n : ℕ). bit_and n part) (eqb-true (bit_and flags whole) whole h) ∙ e)

-- a flag among several is told by these
among : (whole part flags : ℕ) → bit_and whole part ≡ part → bit_and flags part ≡ bit_and (bit_and flags whole) part
among whole part flags e = ap (bit_and flags) (sym e) ∙ sym (and_assoc part flags whole)

-- where none of those that an abstract method may not have is set, private isn't
abbrev not_with_abstract : ℕ
not_with_abstract = acc_private + acc_static + acc_final + acc_synchronized + acc_native + acc_strict

pub no_private : (flags : ℕ) → has_some not_with_abstract flags ≡ false → has acc_private flags ≡ false
no_private flags h =
    ap (λ (n : ℕ). eqb n acc_private)
    (among not_with_abstract acc_private flags refl
    ∙ ap (λ (n : ℕ). bit_and n acc_private)
    (eqb-true (bit_and flags not_with_abstract) 0 (not-false (eqb (bit_and flags not_with_abstract) 0) h))
    ∙ and_zero_l acc_private)

-- ---- access

private_alone : (n : ℕ) → (nat_lt n 3 || eqb n acc_protected) ≡ true → has acc_private n ≡ true
    → (has acc_public n ≡ false) × (has acc_protected n ≡ false)
private_alone n h p = by (nat_lt n 3) refl (eqb n acc_protected) refl h
  where
    small : (n : ℕ) → n < 3 → has acc_private n ≡ true → n ≡ 2
    small n low p =
        ⊎_elim (λ e. absurd (let q : has acc_private 0 ≡ true = ap (has acc_private) (sym e) ∙ p in cc))
        (λ other. ⊎_elim (λ e. absurd (let q : has acc_private 1 ≡ true = ap (has acc_private) (sym e) ∙ p in cc))
        (λ another. omega (arith, low, other, another)) (cases_eq n 1)) (cases_eq n 0)

    by : (s : Bool) → nat_lt n 3 ≡ s → (t : Bool) → eqb n acc_protected ≡ t → (s || t) ≡ true
        → (has acc_public n ≡ false) × (has acc_protected n ≡ false)
    by true s t e k =
        let two = small n (ltb-true n 3 s) p in (ap (has acc_public) two, ap (has acc_protected) two)
    by false s true t k = absurd
        (let four = eqb-true n acc_protected t in
        let q : has acc_private acc_protected ≡ true = ap (has acc_private) (sym four) ∙ p in
        cc)
    by false s false t k = absurd cc

-- a private member is neither public nor protected (JVMS 4.5, 4.6)
pub one_access : (flags : ℕ) → has_one_access flags ≡ true → has acc_private flags ≡ true
    → (has acc_public flags ≡ false) × (has acc_protected flags ≡ false)
one_access flags h p =
    let told : (part : ℕ) → bit_and (acc_public + acc_private + acc_protected) part ≡ part
    → has part flags ≡ has part (access_of flags) = λ part e. ap (λ (n : ℕ). eqb n part)
    (among (acc_public + acc_private + acc_protected) part flags e) in
    let alone = private_alone (access_of flags) h (sym (told acc_private refl) ∙ p) in
    (told acc_public refl ∙ alone.0, told acc_protected refl ∙ alone.1)
