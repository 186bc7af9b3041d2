-- The number of the instruction at each offset (only the proofs of Starts and of read_class need it).
use Rattle.std.specs.Prelude.{ℕ, List, slice_get, nat_eq, if◌then◌else◌, Option, Some, None}

-- an entry that may be missing, of a table that may end before
abbrev pub if_there : Option (Option ℕ) → Option ℕ
if_there (Some x) = x
if_there None = None

-- what a table of the offsets has
abbrev pub found : List (Option ℕ) → ℕ → Option ℕ
found table offset = if_there (slice_get table offset)

-- the first of two that is there
abbrev pub first_of_two : Option ℕ → Option ℕ → Option ℕ
first_of_two (Some x) other = Some x
first_of_two None other = other

-- the same with one more start, of which only the first counts
abbrev pub noted : Option ℕ → ℕ → ℕ → ℕ → Option ℕ
noted before start number offset = first_of_two before (if nat_eq offset start then Some number else None)
