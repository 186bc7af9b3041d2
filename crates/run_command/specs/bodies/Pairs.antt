-- Pairs of surrogates at the front of units (Unicode Standard 3.9; only the proofs of bodies need it).
use Rattle.std.specs.Prelude.{ℕ, ◌&&◌, List, [], ◌∷◌, Option, Some, None, if◌then◌else◌}
use Rattle.std.specs.Char.Utf16.{is_high_surrogate, is_low_surrogate, surrogate_pair_char}

-- the character of two units, where they are a pair
abbrev pub pair : ℕ → ℕ → Option ℕ
pair high low =
    if is_high_surrogate high && is_low_surrogate low then Some (surrogate_pair_char high low) else None

-- the character of a unit and the next one, where they are a pair
abbrev pub pair_in : ℕ → List ℕ → Option ℕ
pair_in unit [] = None
pair_in unit (low ∷ rest) = pair unit low
