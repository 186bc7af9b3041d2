-- Numbers below a limit, by those of 64 bits.
use Rattle.std.proofs.Common.{◌≡◌, ℕ, ◌<◌, ◌≤◌, ◌^◌, Bool, true, false, ltb, ◌&&◌, List, Option, Some, None, refl, sym, ap}
use Rattle.std.proofs.Common.{◌∙◌, arith}
use Rattle.std.specs.Str.Parse.{digits_value}
use Rattle.std.proofs.lemmas.Bool.{ltb-false, ltb-true}
use Rattle.text_lines.specs.Cut.{◌>>=◌, where_true}
use Rattle.text_lines.specs.Numbers.{is_numeral, number_below}

narrowed : (wide limit : ℕ) (text : List ℕ) → limit ≤ wide
    → number_below limit text ≡ number_below wide text >>= (λ n. where_true (ltb n limit) n)
unfolding number_below
narrowed wide limit text small =
    by (is_numeral text) (ltb (digits_value 10 text) limit) (ltb (digits_value 10 text) wide) refl refl
  where
    by : (num below in_wide : Bool) → ltb (digits_value 10 text) limit ≡ below
        → ltb (digits_value 10 text) wide ≡ in_wide
        → where_true (num && below) (digits_value 10 text)
        ≡ where_true (num && in_wide) (digits_value 10 text) >>= (λ n. where_true (ltb n limit) n)
    by false below in_wide e f = refl
    by true true true e f = sym (rw e refl)
    by true false true e f = sym (rw e refl)
    by true false false e f = refl
    by true true false e f = absurd (omega (arith, small, ltb-true _ _ e, ltb-false _ _ f))

-- where no number is found at all
pub narrow_none : (limit : ℕ) (text : List ℕ) → limit < 2 ^ 64 → number_below (2 ^ 64) text ≡ None
    → None ≡ number_below limit text
narrow_none limit text small h =
    sym (narrowed (2 ^ 64) limit text (omega (arith, small))
    ∙ ap (λ (o : Option ℕ). o >>= (λ n. where_true (ltb n limit) n)) h)

-- where one is found
pub narrow_some : (limit : ℕ) (text : List ℕ) (n : ℕ) → limit < 2 ^ 64 → number_below (2 ^ 64) text ≡ Some n
    → number_below limit text ≡ where_true (ltb n limit) n
narrow_some limit text n small h = narrowed (2 ^ 64) limit text (omega (arith, small))
    ∙ ap (λ (o : Option ℕ). o >>= (λ m. where_true (ltb m limit) m)) h
