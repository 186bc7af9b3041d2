-- Marks of names and descriptors: those of equal ones are equal (the project's own: most methods are told apart by them
-- at little cost).
use Rattle.std.specs.Prelude.{ℕ, ◌+◌, ◌*◌, ◌%◌, ◌^◌, List}
use Rattle.std.specs.List.{fold}
use Rattle.class_pool.specs.Found.{NameAndType}

-- one byte more
abbrev pub with_byte : ℕ → ℕ → ℕ
with_byte mark byte = (mark + byte) % 2 ^ 64 * 1099511628211 % 2 ^ 64

-- a text more
abbrev pub with_text : ℕ → List ℕ → ℕ
with_text mark text = fold with_byte mark text

-- of a name and a descriptor
abbrev pub mark_of : NameAndType → ℕ
mark_of named = with_text (with_text 0 named.0) named.1
