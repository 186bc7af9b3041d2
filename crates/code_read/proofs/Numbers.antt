-- The table of the numbers of instructions.
use Rattle.std.proofs.Common.{◌≡◌, ℕ, zero, suc, ◌+◌, ◌<◌, ◌≤◌, Bool, true, false, cond, eqb, List, [], ◌∷◌, ◌++◌}
use Rattle.std.proofs.Common.{length, get_or, set, drop, Option, Some, None, add-one, drop-cons, refl, sym, ap, ◌∙◌}
use Rattle.std.proofs.Common.{arith}
use Rattle.std.specs.Prelude.{nat_eq, ℤ, pos, negsuc}
use Rattle.class_model.specs.InstructionMeaning.{or_else, aim_at}
use Rattle.class_model.specs.Lookups.{due}
use Rattle.class_model.proofs.FirstOfTwo.{or_none, or_cond}
use Rattle.format_reading.specs.declared.fault.FormatKind.TheVariants as bad
use Rattle.std.proofs.lemmas.Bool.{eqb-true, eq-eqb}
use Rattle.std.proofs.lemmas.List.{drop_all}
use Rattle.std.proofs.lemmas.Iterator.Adapters.{position_from-zero}
use Rattle.std.specs.List.{position_from}
use Rattle.code_read.specs.declared.unaimed.Placed.{Placed}
use Rattle.code_read.specs.Targets.{starts_of}
use Rattle.code_read.specs.bodies.Targets.{found, noted, aim_in}

-- an offset without a number is none
pub found_push : (table : List (Option ℕ)) (offset : ℕ) → found (table ++ None ∷ []) offset ≡ found table offset
found_push [] zero = refl
found_push [] (suc n) = refl
found_push (x ∷ xs) zero = refl
found_push (x ∷ xs) (suc n) = found_push xs n

found_more : (x : Option ℕ) (xs : List (Option ℕ)) (n : ℕ) → found (x ∷ xs) (suc n) ≡ found xs n
found_more x xs n = refl

-- what is set is found
pub found_set : (table : List (Option ℕ)) (start number : ℕ) → start < length table
    → found (set table start (Some number)) start ≡ Some number
found_set [] start number lt = absurd (omega (arith, lt))
found_set (x ∷ xs) zero number lt = refl
found_set (x ∷ xs) (suc n) number lt = found_set xs n number (omega (arith, lt))

-- and the others are as they were
pub found_other : (table : List (Option ℕ)) (start number offset : ℕ) → (offset ≡ start → ⊥)
    → found (set table start (Some number)) offset ≡ found table offset
found_other [] start number offset other = refl
found_other (x ∷ xs) zero number zero other = absurd (other refl)
found_other (x ∷ xs) zero number (suc n) other = refl
found_other (x ∷ xs) (suc m) number zero other = refl
found_other (x ∷ xs) (suc m) number (suc n) other = found_other xs m number n (λ e. other (ap suc e))

noted_new : (b : Bool) (table new : List (Option ℕ)) (start number offset : ℕ) → eqb offset start ≡ b
    → found table start ≡ None → found new start ≡ Some number
    → ((offset ≡ start → ⊥) → found new offset ≡ found table offset)
    → found new offset ≡ or_else (found table offset) (cond b (Some number) None)
noted_new true table new start number offset same none some other =
    let e : offset ≡ start = eqb-true _ _ same in
    rw e (some ∙ sym (ap (λ o. or_else o (Some number)) none))
noted_new false table new start number offset same none some other = other
    (λ e. absurd (let f : eqb offset start ≡ true = eq-eqb _ _ e in cc)) ∙ sym (or_none (found table offset))

-- a start of which no number was noted
pub is_noted : (table : List (Option ℕ)) (start number offset : ℕ) → start < length table → found table start ≡ None
    → found (set table start (Some number)) offset ≡ noted (found table offset) start number offset
is_noted table start number offset lt none = noted_new (eqb offset start) table
    (set table start (Some number)) start number offset refl none (found_set table start number lt)
    (λ apart. found_other table start number offset apart)

kept_by : (b : Bool) (o p : Option ℕ) (x number : ℕ) → (b ≡ true → o ≡ p) → p ≡ Some x
    → o ≡ or_else o (cond b (Some number) None)
kept_by true o p x number same some = let e : o ≡ Some x = same refl ∙ some in rw e refl
kept_by false o p x number same some = sym (or_none o)

-- a start of which one was
pub is_kept : (table : List (Option ℕ)) (start number offset x : ℕ) → found table start ≡ Some x
    → found table offset ≡ noted (found table offset) start number offset
is_kept table start number offset x some = kept_by (eqb offset start) (found table offset) (found table start) x number
    (λ h. ap (found table) (eqb-true _ _ h)) some

-- ---- the number of the first instruction at an offset, counted from k

abbrev pub number_from : ℕ → ℕ → List Placed → Option ℕ
number_from offset k [] = None
number_from offset k (p ∷ ps) = cond (eqb offset p.at) (Some k) (number_from offset (k + 1) ps)

-- one more start was noted
pub goes_on : (before after total : Option ℕ) (offset i : ℕ) (ps : List Placed) (d : Placed) → i < length ps
    → after ≡ noted before (get_or ps i d).at i offset
    → or_else before (number_from offset i (drop i ps)) ≡ total
    → or_else after (number_from offset (i + 1) (drop (i + 1) ps)) ≡ total
goes_on before after total offset i ps d lt now so_far =
    let next : drop i ps ≡ get_or ps i d ∷ drop (i + 1) ps = rw (add-one, drop-cons ps i d) refl in
    ap (λ o. or_else o (number_from offset (i + 1) (drop (i + 1) ps))) now
    ∙ sym (or_cond before (eqb offset (get_or ps i d).at) i (number_from offset (i + 1) (drop (i + 1) ps)))
    ∙ ap (λ qs. or_else before (number_from offset i qs)) (sym next) ∙ so_far

number_is : (offset k : ℕ) (ps : List Placed) → number_from offset k ps ≡ position_from (nat_eq offset) k (starts_of ps)
number_is offset k [] = refl
number_is offset k (p ∷ ps) = ap (cond (eqb offset p.at) (Some k)) (number_is offset (k + 1) ps)

-- at the end the table has each number
pub is_done : (table : List (Option ℕ)) (i : ℕ) (ps : List Placed) → length ps ≤ i
    → ((offset : ℕ) → or_else (found table offset) (number_from offset i (drop i ps)) ≡ number_from offset 0 ps)
    → (target : ℤ) → aim_in table target ≡ aim_at (starts_of ps) target
is_done table i ps le so_far (negsuc n) = refl
is_done table i ps le so_far (pos offset) =
    let here : or_else (found table offset) None
    ≡ number_from offset 0 ps = ap (λ qs. or_else (found table offset) (number_from offset i qs))
    (sym (drop_all i ps le)) ∙ so_far offset in
    ap (due bad.BadTarget) (sym (or_none (found table offset)) ∙ here ∙ number_is offset 0 ps
    ∙ sym (position_from-zero (nat_eq offset) (starts_of ps)))
