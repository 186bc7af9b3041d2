-- Words and bits against the sets of the machine.
use Rattle.std.proofs.Common.{◌≡◌, ◌≢◌, ℕ, ◌+◌, ◌*◌, ◌/◌, ◌%◌, ◌<◌, Bool, true}
use Rattle.std.proofs.Common.{List, length, get_or, set, ⊎_elim, subst, sym}
use Rattle.std.proofs.Common.{◌∙◌, ap, arith, eqb, eq-eqb, bit_or, w64, get_or-set_same}
use Rattle.std.proofs.Common.{get_or-set_other}
use Rattle.std.proofs.lemmas.Bool.{cases_eq}
use Rattle.std.specs.Int.{bit_at}
use Rattle.std.proofs.lemmas.Nat.Bits.{bit_at_set_same, bit_at_set_other, bit_at-zero}
use Rattle.mark_machine.specs.Machine.{adding}
use Rattle.mark_machine.proofs.Events.{adding_same, adding_other}
use Rattle.mark_words.specs.Words.{mark_word, taken_word, mask, has_bit, word_count}

pub rem_lt : (x : ℕ) → x % 64 < 64
rem_lt x = omega arith

pub same_item : (x y : ℕ) → x / 64 ≡ y / 64 → x % 64 ≡ y % 64 → x ≡ y
same_item x y q r = omega (arith, q, r)

pub word_within : (n x : ℕ) → x < n → 2 * (x / 64) + 2 < word_count n
word_within n x h = omega (arith, h)

pub mask_same : (x y : ℕ) → mask x ≡ mask y → x % 64 ≡ y % 64
mask_same x y e = ⊎_elim (λ p. p)
    (λ n.
    let a : bit_at (bit_or 0 (mask x)) (x % 64) ≡ 1 = bit_at_set_same w64 0 (x % 64) (rem_lt x) in
    let b : bit_at (bit_or 0 (mask y)) (x % 64) ≡ bit_at 0 (x % 64) = bit_at_set_other w64 0 (y % 64) (rem_lt y)
    (x % 64) n in
    let c : 1 ≡ 0 = sym a ∙ (ap (λ m. bit_at (bit_or 0 m) (x % 64)) e ∙ (b ∙ bit_at-zero (x % 64))) in
    absurd (omega (arith, c)))
    (cases_eq (x % 64) (y % 64))

-- the item is known by its word and its bit
pub mark_same : (x y : ℕ) → mark_word x ≡ mark_word y → mask x ≡ mask y → x ≡ y
mark_same x y w m = same_item x y (omega (arith, w)) (mask_same x y m)

pub taken_same : (x y : ℕ) → taken_word x ≡ taken_word y → mask x ≡ mask y → x ≡ y
taken_same x y w m = same_item x y (omega (arith, w)) (mask_same x y m)

has_same : (w x : ℕ) → has_bit (bit_or w (mask x)) x ≡ true
has_same w x = eq-eqb _ 1 (bit_at_set_same w64 w (x % 64) (rem_lt x))

has_other : (w x y : ℕ) → y % 64 ≢ x % 64 → has_bit (bit_or w (mask x)) y ≡ has_bit w y
has_other w x y n = ap (λ b. eqb b 1) (bit_at_set_other w64 w (x % 64) (rem_lt x) (y % 64) n)

-- the set of the items whose bit is set, at t = 1 in the mark words, at t = 2 in the taken words
module _ (t : ℕ) (words : List ℕ) (c : ℕ) (within : 2 * (c / 64) + t < length words) where
  or_word : ℕ
  or_word = bit_or (get_or words (2 * (c / 64) + t) 0) (mask c)

  pub or_set : (y : ℕ) → has_bit (get_or (set words (2 * (c / 64) + t) (bit_or (get_or words (2 * (c / 64) + t) 0)
      (mask c))) (2 * (y / 64) + t) 0) y
      ≡ adding (λ x. has_bit (get_or words (2 * (x / 64) + t) 0) x) c y
  or_set y =
      let w : ℕ = bit_or (get_or words (2 * (c / 64) + t) 0) (mask c) in
      let m : ℕ → Bool = λ x. has_bit (get_or words (2 * (x / 64) + t) 0) x in
      let here : get_or (set words (2 * (c / 64) + t) w) (2 * (c / 64) + t) 0 ≡ w = get_or-set_same words
      (2 * (c / 64) + t) w 0 within in
      ⊎_elim
      (λ e. subst (λ z. has_bit (get_or (set words (2 * (c / 64) + t) w) (2 * (z / 64) + t) 0) z ≡ adding m c z)
      (sym e)
      (ap (λ k. has_bit k c) here ∙ (has_same (get_or words (2 * (c / 64) + t) 0) c ∙ sym (adding_same m c))))
      (λ ne. ⊎_elim
      (λ e.
      let at : get_or (set words (2 * (c / 64) + t) w) (2 * (y / 64) + t) 0
      ≡ w = subst (λ q. get_or (set words (2 * (c / 64) + t) w) (2 * q + t) 0 ≡ w) (sym e) here in
      let was : get_or words (2 * (c / 64) + t) 0 ≡ get_or words (2 * (y / 64) + t) 0 =
      ap (λ q. get_or words (2 * q + t) 0) (sym e) in
      ap (λ k. has_bit k y) at ∙ (has_other (get_or words (2 * (c / 64) + t) 0) c y
      (λ r. ne (same_item y c e r)) ∙ (ap (λ k. has_bit k y) was ∙ sym (adding_other m c y ne))))
      (λ nq. ap (λ k. has_bit k y) (get_or-set_other words (2 * (c / 64) + t) (2 * (y / 64) + t) w 0
      (λ h. nq (omega (arith, h)))) ∙ sym (adding_other m c y ne))
      (cases_eq (y / 64) (c / 64)))
      (cases_eq y c)

-- a word of another kind is left alone
pub mark_not_taken : (x y : ℕ) → mark_word x ≢ taken_word y
mark_not_taken x y h = omega (arith, h)
