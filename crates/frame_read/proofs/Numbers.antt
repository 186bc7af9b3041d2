-- The table of the numbers of instructions.
use Rattle.std.proofs.Common.{◌≡◌, ℕ, ◌+◌, ◌<◌, ◌≤◌, eqb, List, ◌∷◌}
use Rattle.std.proofs.Common.{length, get_or, drop, Option, None, add-one, drop-cons, refl, sym, ap, ◌∙◌}
use Rattle.std.specs.Prelude.{nat_eq, position}
use Rattle.std.proofs.lemmas.List.{drop_all}
use Rattle.std.proofs.lemmas.Iterator.Adapters.{position_from-zero}
use Rattle.std.specs.List.{position_from}
use Rattle.class_model.proofs.FirstOfTwo.{or_none, or_cond}
use Rattle.frame_read.specs.bodies.Numbers.{found, noted, first_of_two}

-- one more start was noted
pub goes_on : (before after total : Option ℕ) (offset i : ℕ) (starts : List ℕ) (d : ℕ) → i < length starts
    → after ≡ noted before (get_or starts i d) i offset
    → first_of_two before (position_from (nat_eq offset) i (drop i starts)) ≡ total
    → first_of_two after (position_from (nat_eq offset) (i + 1) (drop (i + 1) starts)) ≡ total
goes_on before after total offset i starts d lt now so_far =
    let next : drop i starts ≡ get_or starts i d ∷ drop (i + 1) starts = rw (add-one, drop-cons starts i d) refl in
    ap (λ o. first_of_two o (position_from (nat_eq offset) (i + 1) (drop (i + 1) starts))) now
    ∙ sym (or_cond before (eqb offset (get_or starts i d)) i
    (position_from (nat_eq offset) (i + 1) (drop (i + 1) starts)))
    ∙ ap (λ rest. first_of_two before (position_from (nat_eq offset) i rest)) (sym next) ∙ so_far

-- at the end the table has each number
pub is_done : (table : List (Option ℕ)) (i : ℕ) (starts : List ℕ) → length starts ≤ i → ((offset : ℕ)
    → first_of_two (found table offset) (position_from (nat_eq offset) i (drop i starts))
    ≡ position_from (nat_eq offset) 0 starts)
    → (offset : ℕ) → found table offset ≡ position (nat_eq offset) starts
is_done table i starts le so_far offset =
    let here : first_of_two (found table offset) None
    ≡ position_from (nat_eq offset) 0 starts = ap (λ rest. first_of_two
    (found table offset) (position_from (nat_eq offset) i rest)) (sym (drop_all i starts le)) ∙ so_far offset in
    sym (or_none (found table offset)) ∙ here ∙ sym (position_from-zero (nat_eq offset) starts)
