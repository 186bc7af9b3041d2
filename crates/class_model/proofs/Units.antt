-- Texts of UTF-16 units: where each surrogate has its partner, each character is there.
use Rattle.std.proofs.Common.{◌≡◌, ℕ, Bool, true, false, List, [], ◌∷◌, map, Option, Some, None, refl, ap, not}
use Rattle.std.specs.Prelude.{is_some, option_map, encode_utf8_all}
use Rattle.std.specs.Option.{unwrap_or}
use Rattle.std.specs.List.{list_any}
use Rattle.std.specs.Char.Utf16.{utf16_chars, utf16_lossy_chars, has_unpaired_surrogate}
use Rattle.class_model.specs.Lookups.{all_there, with_first, text_of}

-- a surrogate without its partner
abbrev is_lone : Option ℕ → Bool
is_lone o = not (is_some o)

-- a character, or U+FFFD
abbrev lossy : Option ℕ → ℕ
lossy o = unwrap_or o 0xFFFD

all_lossy : (os : List (Option ℕ)) → list_any is_lone os ≡ false → all_there os ≡ Some (map lossy os)
all_lossy [] h = refl
all_lossy (None ∷ os) h = absurd cc
all_lossy (Some x ∷ os) h = ap (with_first (Some x)) (all_lossy os h)

none_there : (os : List (Option ℕ)) → list_any is_lone os ≡ true → all_there os ≡ None
none_there [] h = absurd cc
none_there (None ∷ os) h = refl
none_there (Some x ∷ os) h = ap (with_first (Some x)) (none_there os h)

-- where no surrogate is alone, the characters are a text
pub text_is : (units : List ℕ) → has_unpaired_surrogate units ≡ false
    → text_of units ≡ Some (encode_utf8_all (utf16_lossy_chars units))
unfolding text_of
text_is units h = ap (option_map encode_utf8_all) (all_lossy (utf16_chars units) h)

-- else there is none
pub no_text : (units : List ℕ) → has_unpaired_surrogate units ≡ true → text_of units ≡ None
unfolding text_of
no_text units h = ap (option_map encode_utf8_all) (none_there (utf16_chars units) h)
