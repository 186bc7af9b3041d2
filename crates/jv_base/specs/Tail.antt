-- The last bytes of a text as a number (the project's own: texts are told apart by it at little cost).
use Rattle.std.specs.Prelude.{ℕ, ◌+◌, ◌-◌, ◌*◌, ◌%◌, ◌^◌, List, length, drop}
use Rattle.std.specs.List.{fold}

-- one byte more
abbrev pub with_byte : ℕ → ℕ → ℕ
with_byte number byte = (number * 256 % 2 ^ 64 + byte) % 2 ^ 64

-- of the last eight bytes, or of all where there are fewer
abbrev pub tail : List ℕ → ℕ
tail text = fold with_byte 0 (drop (length text - 8) text)
