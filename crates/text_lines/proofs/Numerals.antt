-- Numbers in texts: what is spelled is read, and what is read was spelled so.
use Rattle.std.proofs.Common.{◌≡◌, ◌≢◌, ℕ, suc, ◌+◌, ◌<◌, ◌≤◌, ◌^◌, Bool, true, false, not, cond, eqb, ltb, ◌&&◌, ◌||◌}
use Rattle.std.proofs.Common.{List, [], ◌∷◌, ◌++◌, length, get_or, Option, Some, None, Result, Ok, Err, refl, sym, ap}
use Rattle.std.proofs.Common.{subst, ◌∙◌, arith, rules, inl, inr}
use Rattle.std.specs.Char.{is_ascii_digit}
use Rattle.std.specs.Fmt.{decimal}
use Rattle.std.specs.Int.{IsInRange}
use Rattle.std.specs.List.{list_all}
use Rattle.std.specs.Result.{result_ok, OkIff}
use Rattle.std.specs.Str.Parse.{digits_value, ParsesUnsigned}
use Rattle.std.proofs.lemmas.Bool.{and_parts, eqb-true, cases_Bool, cases_lt, ltb-true, ltb-false}
use Rattle.std.proofs.lemmas.Fmt.{digits_decimal, digits_value-decimal, decimal-digits_value, decimal_nonempty}
use Rattle.std.proofs.lemmas.Fmt.{first_decimal, decimal_digit}
use Rattle.std.proofs.lemmas.Str.Parse.{IsNumeralModel, IsDigitsTest, numerals_by_value, parse_plain, digit_at}
use Rattle.text_lines.specs.Cut.{◌>>=◌, where_true}
use Rattle.text_lines.specs.Numbers.{are_digits, is_numeral, number_below, SpellsNumber}
use Rattle.text_lines.proofs.Spelling.{where_some}

tells : IsDigitsTest (λ ds. are_digits ds ≡ true)
tells = search rules

pub own : IsNumeralModel (λ ds. are_digits ds ≡ true) (digits_value 10)
own = numerals_by_value _ tells

-- the parts of a numeral
pub numeral_parts : (text : List ℕ) → is_numeral text ≡ true
    → (are_digits text ≡ true) × (0 < length text) × (get_or text 0 0 ≡ 48 → length text ≡ 1)
unfolding is_numeral
numeral_parts [] h = absurd cc
numeral_parts (b ∷ bs) h =
    let parts = and_parts (are_digits (b ∷ bs)) (not (eqb b 48) || eqb (length bs) 0) h in
    (parts.0, omega arith, λ e. grind (arith, parts.1))

parsed_as : (k : ℕ) (text : List ℕ) {E : Type 0} (r : Result ℕ E) → is_numeral text ≡ true
    → OkIff r ((are_digits text ≡ true) × (0 < length text) × (digits_value 10 text < 2 ^ k)) (digits_value 10 text)
    → result_ok r ≡ number_below (2 ^ k) text
unfolding number_below
parsed_as k text (Ok n) num h =
    let small : ltb (digits_value 10 text) (2 ^ k) ≡ true = grind (arith, h.0.2) in
    rw (num, small) (ap (λ (m : ℕ). let o : Option ℕ = Some m in o) h.1)
parsed_as k text (Err e) num h =
    let parts = numeral_parts text num in
    elim (cases_Bool (ltb (digits_value 10 text) (2 ^ k))) [
      | inl below ↦ absurd (h (parts.0, parts.1, ltb-true _ _ below))
      | inr above ↦ rw (num, above) refl
    ]

no_sign : (text : List ℕ) → is_numeral text ≡ true → get_or text 0 0 ≢ 43
no_sign text num e =
    let parts = numeral_parts text num in
    let digit = digit_at text 0 (own.to text parts.0) parts.1 in omega (arith, digit)

-- what `parse` gives of a numeral
pub parsed : (k : ℕ) (text : List ℕ) {E : Type 0} (r : Result ℕ E) → ParsesUnsigned k 10 text r → is_numeral text ≡ true
    → result_ok r ≡ number_below (2 ^ k) text
parsed k text r h num = parsed_as k text r num (parse_plain own k text r h (no_sign text num))

-- what is read is spelled so
pub number_found : (limit : ℕ) (text : List ℕ) (n : ℕ) → limit ≤ 2 ^ 64 → number_below limit text ≡ Some n
    → SpellsNumber limit text n
unfolding number_below
number_found limit text n wide h =
    let w = where_some (is_numeral text && ltb (digits_value 10 text) limit) (digits_value 10 text) n h in
    let p = and_parts (is_numeral text) (ltb (digits_value 10 text) limit) w.0 in
    let parts = numeral_parts text p.0 in
    let small : digits_value 10 text < limit = ltb-true _ _ p.1 in (
      omega (arith, small, w.1),
      sym (decimal-digits_value own text parts.0 parts.1 parts.2 (omega (arith, small, wide))) ∙ ap decimal w.1,
    )

numeral_from : (text : List ℕ) → are_digits text ≡ true → 0 < length text → (get_or text 0 0 ≡ 48 → length text ≡ 1)
    → is_numeral text ≡ true
unfolding is_numeral
numeral_from [] d some one = absurd (omega arith)
numeral_from (b ∷ bs) d some one =
    rw d (elim (cases_Bool (eqb b 48)) [
      | inl zero_ ↦
          (let single = one (eqb-true b 48 zero_) in let none : eqb (length bs) 0 ≡ true = grind (arith, single) in
          rw (zero_, none) refl)
      | inr other ↦ rw other refl
    ])

-- a number's digits are a numeral
decimal_numeral : (n : ℕ) → n < 2 ^ 64 → is_numeral (decimal n) ≡ true
decimal_numeral n small = numeral_from (decimal n) (digits_decimal own n small) (decimal_nonempty n small) first
  where
    first : get_or (decimal n) 0 0 ≡ 48 → length (decimal n) ≡ 1
    first e = elim (cases_lt 0 n) [
      | inl more ↦ (let above = first_decimal n more small in absurd (omega (arith, above, e)))
      | inr none ↦ (let is : n ≡ 0 = omega arith in ap length (ap decimal is ∙ decimal_digit 0 (omega arith)))
    ]

-- what is spelled so is read
pub number_only : (limit : ℕ) (text : List ℕ) (n : ℕ) → limit ≤ 2 ^ 64 → SpellsNumber limit text n
    → number_below limit text ≡ Some n
unfolding number_below
number_only limit text n wide h =
    let small : n < 2 ^ 64 = omega (arith, h.0) in
    let value : digits_value 10 (decimal n) ≡ n = digits_value-decimal own n small in
    let below : ltb (digits_value 10 (decimal n)) limit ≡ true = grind (arith, value, h.0) in
    let num : is_numeral (decimal n) ≡ true = decimal_numeral n small in
    ap (number_below limit) h.1 ∙ rw (num, below) (ap (λ (m : ℕ). let o : Option ℕ = Some m in o) value)

-- a number's digits
pub decimal_digits : (n : ℕ) → n < 2 ^ 64 → (list_all is_ascii_digit (decimal n) ≡ true) × (0 < length (decimal n))
decimal_digits n small = (digits_decimal own n small, decimal_nonempty n small)

-- a number below a limit is one of 32 bits that is below it
pub narrowed : (limit : ℕ) (text : List ℕ) → limit < 2 ^ 32
    → number_below limit text ≡ number_below (2 ^ 32) text >>= (λ n. where_true (ltb n limit) n)
unfolding number_below
narrowed limit text small =
    by (is_numeral text) (ltb (digits_value 10 text) limit) (ltb (digits_value 10 text) (2 ^ 32)) refl refl
  where
    by : (num below wide : Bool) → ltb (digits_value 10 text) limit ≡ below → ltb (digits_value 10 text) (2 ^ 32) ≡ wide
        → where_true (num && below) (digits_value 10 text)
        ≡ where_true (num && wide) (digits_value 10 text) >>= (λ n. where_true (ltb n limit) n)
    by false below wide e f = refl
    by true true true e f = sym (rw e refl)
    by true false true e f = sym (rw e refl)
    by true false false e f = refl
    by true true false e f = absurd (omega (arith, ltb-true _ _ e, ltb-false _ _ f))

pub narrow_none : (limit : ℕ) (text : List ℕ) → limit < 2 ^ 32 → number_below (2 ^ 32) text ≡ None
    → None ≡ number_below limit text
narrow_none limit text small h =
    sym (narrowed limit text small ∙ ap (λ (o : Option ℕ). o >>= (λ n. where_true (ltb n limit) n)) h)

-- where the number is found, what is below the limit
pub narrow_some : (limit : ℕ) (text : List ℕ) (n : ℕ) → limit < 2 ^ 32 → number_below (2 ^ 32) text ≡ Some n
    → number_below limit text ≡ where_true (ltb n limit) n
narrow_some limit text n small h = narrowed limit text small
    ∙ ap (λ (o : Option ℕ). o >>= (λ m. where_true (ltb m limit) m)) h
