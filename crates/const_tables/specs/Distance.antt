-- How far an int is from the least key of a table (the project's own; only the code's contracts
-- need it).
use Rattle.std.specs.Prelude.{◌≡◌, ℕ, ℤ, pos, negsuc, Option, Some, None}

-- the number is that natural one, or below zero
abbrev pub IsDistance : Option ℕ → ℤ → Type 0
IsDistance (Some n) z = z ≡ pos n
IsDistance None z = (n : ℕ) × (z ≡ negsuc n)
