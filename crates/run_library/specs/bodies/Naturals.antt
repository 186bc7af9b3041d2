-- A number that isn't negative (only the proof of the bodies needs it).
use Rattle.std.specs.Prelude.{◌≡◌, ℕ, ℤ, pos, negsuc, Option, Some, None}

-- the number is that natural one, or below zero
abbrev pub IsNatural : Option ℕ → ℤ → Type 0
IsNatural (Some n) z = z ≡ pos n
IsNatural None z = (n : ℕ) × (z ≡ negsuc n)
