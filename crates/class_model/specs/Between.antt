-- Numbers from one to another (the project's own: opcodes and numbers come in ranges).
use Rattle.std.specs.Prelude.{ℕ, ℤ, Bool, nat_le, ◌&&◌, int_le}

-- a number from the first to the second
abbrev pub between : ℕ → ℕ → ℕ → Bool
between low high n = nat_le low n && nat_le n high

-- a number is one of these
abbrev pub int_between : ℤ → ℤ → ℤ → Bool
int_between low high n = int_le low n && int_le n high
