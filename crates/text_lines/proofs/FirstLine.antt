-- The first line of a text, and the lines behind it.
use Rattle.std.proofs.Common.{◌≡◌, ℕ, ◌+◌, ◌-◌, ◌<◌, ◌≤◌, Bool, true, false, cond, eqb, ltb, List, [], ◌∷◌, length}
use Rattle.std.proofs.Common.{take, drop, Option, Some, None, refl, sym, ap, subst, ◌∙◌, arith}
use Rattle.std.specs.Prelude.{position}
use Rattle.std.specs.List.{slice_split, onto_first, position_or_len}
use Rattle.std.specs.Str.Lines.{lines, lines_of_parts, strip_carriage_return}
use Rattle.std.proofs.lemmas.Bool.{ltb-true, ltb-false, eq-eqb}
use Rattle.std.proofs.lemmas.List.{drop_all, take_rest}
use Rattle.std.proofs.lemmas.List.Splits.{slice_split_first, length-slice_split}

abbrev is_end : ℕ → Bool
is_end b = eqb b 10

-- a part with another behind it is a line
pub part_is_line : (x : List ℕ) (parts : List (List ℕ)) → 0 < length parts
    → lines_of_parts (x ∷ parts) ≡ strip_carriage_return x ∷ lines_of_parts parts
part_is_line x [] h = absurd (omega arith)
part_is_line x (y ∷ more) h = refl

first_at : (text : List ℕ) (at : ℕ) → position_or_len is_end text < length text → position_or_len is_end text ≡ at
    → lines text ≡ strip_carriage_return (take at text) ∷ lines (drop (at + 1) text)
first_at text at lt e =
    ap lines_of_parts (slice_split_first is_end text 0 lt)
    ∙ part_is_line (take (position_or_len is_end text) text)
    (slice_split is_end (drop (position_or_len is_end text + 1) text))
    (omega (arith, length-slice_split is_end (drop (position_or_len is_end text + 1) text)))
    ∙ ap (λ (n : ℕ). strip_carriage_return (take n text) ∷ lines (drop (n + 1) text)) e

-- the line before the first end
pub first_line : (text : List ℕ) (at : ℕ) → position is_end text ≡ Some at
    → lines text ≡ strip_carriage_return (take at text) ∷ lines (drop (at + 1) text)
first_line text at h =
    elim (ltb (position_or_len is_end text) (length text)) as
    (λ b. ltb (position_or_len is_end text) (length text) ≡ b
    → cond b (Some (position_or_len is_end text)) None ≡ Some at
    → lines text ≡ strip_carriage_return (take at text) ∷ lines (drop (at + 1) text)) [
      | true ↦ λ e k. first_at text at (ltb-true _ _ e) cc
      | false ↦ λ e k. absurd cc
    ] refl h

pub one_part : (text : List ℕ) → length text ≤ position_or_len is_end text → slice_split is_end text ≡ text ∷ []
one_part [] h = refl
one_part (b ∷ text) h =
    elim (is_end b) as (λ t. is_end b ≡ t → length (b ∷ text) ≤ position_or_len is_end (b ∷ text)
    → cond t ([] ∷ slice_split is_end text) (onto_first b (slice_split is_end text)) ≡ (b ∷ text) ∷ []) [
      | true ↦ λ e k.
          (let zero_ : position_or_len is_end (b ∷ text) ≡ 0 = rw e refl in absurd (omega (arith, zero_, k)))
      | false ↦ λ e k. (let more : position_or_len is_end (b ∷ text) ≡ 1 + position_or_len is_end text = rw e refl in
          ap (onto_first b) (one_part text (omega (arith, more, k))))
    ] refl h

-- a text without an end is one line
pub last_line : (text : List ℕ) → position is_end text ≡ None → 0 < length text → lines text ≡ text ∷ []
last_line text h some =
    let e : eqb (length text) 0 ≡ false = grind arith in
    elim (ltb (position_or_len is_end text) (length text)) as
    (λ b. ltb (position_or_len is_end text) (length text) ≡ b → cond b (Some (position_or_len is_end text)) None ≡ None
    → lines text ≡ text ∷ []) [
      | true ↦ λ t k. absurd cc
      | false ↦ λ t k. ap lines_of_parts (one_part text (ltb-false _ _ t)) ∙ rw e refl
    ] refl h
