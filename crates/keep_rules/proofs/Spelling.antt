-- Words by their bytes.
use Rattle.std.proofs.Common.{◌≡◌, ◌≢◌, ℕ, zero, suc, ◌+◌, ◌≤◌, ◌<◌, Bool, true, false, cond, List, [], ◌∷◌}
use Rattle.std.proofs.Common.{length, drop, get_or, not, Some, None, refl, ap, arith, eqb}
use Rattle.std.specs.List.{list_any, position, position_or_len}
use Rattle.std.proofs.lemmas.List.Sums.{prefix_len-le-length}
use Rattle.std.proofs.lemmas.Bool.{eqb-true, eq-eqb, ltb-false, ltb-true, or_right}
use Rattle.std.proofs.lemmas.Option.{cond_some}
use Rattle.jv_base.proofs.Options.{none_by}
use Rattle.keep_rules.specs.Texts.{without_not, last_part}

not_by : (b : ℕ) (word : List ℕ) (t : Bool) → eqb b 33 ≡ t → ((rest : List ℕ) → b ∷ word ≢ 33 ∷ rest)
    → cond t word (b ∷ word) ≡ b ∷ word
not_by b word true e h = absurd (h word (ap (λ (n : ℕ). n ∷ word) (eqb-true b 33 e)))
not_by b word false e h = refl

-- a word without a `!` at its front is as it is
pub without_not_same : (word : List ℕ) → ((rest : List ℕ) → word ≢ 33 ∷ rest) → without_not word ≡ word
without_not_same [] h = refl
without_not_same (b ∷ word) h = not_by b word (eqb b 33) refl h

-- ---- the last part of a name

-- a dot
abbrev is_dot : ℕ → Bool
is_dot b = eqb b 46

dot_by : (b : ℕ) (t : Bool) → eqb b 46 ≡ t → b ≢ 46 → eqb b 46 ≡ false
dot_by b true e h = absurd (h (eqb-true b 46 e))
dot_by b false e h = e

no_dots : (name : List ℕ) → ((i : ℕ) → i < length name → get_or name i 0 ≢ 46) → list_any is_dot name ≡ false
no_dots [] h = refl
no_dots (b ∷ name) h = rw (dot_by b (eqb b 46) refl (h 0 (omega arith)))
    (no_dots name (λ i lt. h (suc i) (omega (arith, lt))))

-- a name without dots is one part
pub last_part_same : (name : List ℕ) → ((i : ℕ) → i < length name → get_or name i 0 ≢ 46) → last_part name ≡ name
unfolding last_part
last_part_same [] h = refl
last_part_same (b ∷ name) h = rw (no_dots (b ∷ name) h) refl

a_dot : (name : List ℕ) (at : ℕ) → at < length name → get_or name at 0 ≡ 46 → list_any is_dot name ≡ true
a_dot [] at lt h = absurd (omega (arith, lt))
a_dot (b ∷ name) zero lt h = rw (eq-eqb b 46 h) refl
a_dot (b ∷ name) (suc at) lt h = or_right (is_dot b) (list_any is_dot name) (a_dot name at (omega (arith, lt)) h)

-- the last part stands behind the last dot
pub last_part_is : (name : List ℕ) (at : ℕ) → at < length name → get_or name at 0 ≡ 46
    → ((i : ℕ) → at < i → i < length name → get_or name i 0 ≢ 46) → last_part name ≡ drop (at + 1) name
unfolding last_part
last_part_is [] at lt h last = absurd (omega (arith, lt))
last_part_is (b ∷ name) zero lt h last = rw (a_dot (b ∷ name) 0 lt h)
    (last_part_same name (λ i l. last (suc i) (omega arith) (omega (arith, l))))
last_part_is (b ∷ name) (suc at) lt h last =
    let one : suc at + 1 ≡ suc (at + 1) = omega arith in
    rw (a_dot (b ∷ name) (suc at) lt h, one)
    (last_part_is name at (omega (arith, lt)) h (λ i l m. last (suc i) (omega (arith, l)) (omega (arith, m))))

-- ---- places in a list

-- where something was found
pub found_within : {X : Type 0} (p : X → Bool) (xs : List X) (at : ℕ) → position p xs ≡ Some at → at ≤ length xs
found_within p xs at h =
    let s = cond_some _ _ at h in
    omega (arith, s.1, ltb-true _ _ s.0)

-- where nothing was found
pub found_none : {X : Type 0} (p : X → Bool) (xs : List X) → position p xs ≡ None → length xs ≡ position_or_len p xs
found_none p xs h =
    let le : length xs ≤ position_or_len p xs = ltb-false _ _ (none_by _ _ h) in
    omega (arith, le, prefix_len-le-length (λ x. not (p x)) xs)
