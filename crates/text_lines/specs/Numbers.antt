-- Numbers in texts: decimal digits without a leading zero (the project's own: a number has one spelling).
use Rattle.std.specs.Prelude.{◌≡◌, ℕ, ◌<◌, ◌^◌, Bool, false, not, ◌&&◌, ◌||◌, ◌==◌, nat_lt, List, [], ◌∷◌, length}
use Rattle.std.specs.Prelude.{Option}
use Rattle.std.specs.Fmt.{decimal}
use Rattle.std.specs.Char.{is_ascii_digit}
use Rattle.std.specs.List.{list_all}
use Rattle.std.specs.Str.Parse.{digits_value}
use Rattle.text_lines.specs.Cut.{where_true}

-- decimal digits
abbrev pub are_digits : List ℕ → Bool
are_digits text = list_all is_ascii_digit text

-- one digit at least, and the first is 0 only where it stands alone
unfoldable pub is_numeral : List ℕ → Bool
is_numeral [] = false
is_numeral (b ∷ bs) = are_digits (b ∷ bs) && (not (b == 48) || length bs == 0)

-- the text is the spelling of a number below a limit
abbrev pub SpellsNumber : ℕ → List ℕ → ℕ → Type 0
SpellsNumber limit text n = (n < limit) × (text ≡ decimal n)

-- the number below a limit that a text spells, if it spells one
unfoldable pub number_below : ℕ → List ℕ → Option ℕ
number_below limit text = where_true (is_numeral text && nat_lt (digits_value 10 text) limit) (digits_value 10 text)
