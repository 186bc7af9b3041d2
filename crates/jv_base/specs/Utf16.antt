-- The UTF-16 units of a text, which is seen as its bytes in UTF-8 (Unicode Standard 3.9, UTF-8 and UTF-16).
use Rattle.std.specs.Prelude.{◌≡◌, ℕ, List, IsUtf8}
use Rattle.std.specs.Char.Escape.{encode_utf16}
use Rattle.std.specs.List.{flat_map}
use Rattle.std.specs.Str.{chars}

-- one unit for each character below U+10000, and a pair of surrogates for each other one
unfoldable pub units_of : List ℕ → List ℕ
units_of text = flat_map encode_utf16 (chars text)

-- a text has these units
abbrev pub IsTextOf : List ℕ → List ℕ → Type 0
IsTextOf text units = IsUtf8 text × (units_of text ≡ units)
