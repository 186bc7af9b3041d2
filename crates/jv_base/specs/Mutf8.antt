-- Modified UTF-8 (JVMS 4.4.7).
use Rattle.std.specs.Prelude.{ℕ, ◌+◌, ◌/◌, ◌%◌, ◌<◌, List, [], ◌∷◌, slice_index, nat_lt, ◌==◌, if◌then◌else◌}
use Rattle.std.specs.List.{flat_map}

-- the bytes of a unit: one from 1 to 7F, two for 0 and from 80 to 7FF, three from 800 on, also for a surrogate
unfoldable pub unit_bytes : ℕ → List ℕ
unit_bytes unit =
    if unit == 0 then 0xC0 ∷ 0x80 ∷ []
    else if nat_lt unit 0x80 then unit ∷ []
    else if nat_lt unit 0x800 then (0xC0 + unit / 0x40) ∷ (0x80 + unit % 0x40) ∷ []
    else (0xE0 + unit / 0x1000) ∷ (0x80 + unit / 0x40 % 0x40) ∷ (0x80 + unit % 0x40) ∷ []

-- the bytes of units
unfoldable pub mutf8 : List ℕ → List ℕ
mutf8 units = flat_map unit_bytes units

-- each number is a UTF-16 unit (Unicode Standard 3.9, UTF-16)
abbrev pub IsUnits : List ℕ → Type 0
IsUnits units = (i : ℕ) → slice_index units i < 65536
