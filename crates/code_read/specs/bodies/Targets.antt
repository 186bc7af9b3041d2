-- The targets of instructions, as their numbers: parts that only the proofs of bodies need (the project's own: steps of
-- a call).
use Rattle.std.specs.Prelude.{ℕ, ℤ, pos, negsuc, List, slice_get, nat_eq, if◌then◌else◌, Option, Some}
use Rattle.std.specs.Prelude.{None, Result, Err}
use Rattle.format_reading.specs.declared.fault.FormatKind.{FormatKind}
use Rattle.format_reading.specs.declared.fault.FormatKind.TheVariants as bad
use Rattle.class_model.specs.Lookups.{due}
use Rattle.class_model.specs.InstructionMeaning.{or_else}

-- an entry that may be missing, of a table that may end before (only the proof of decode_code needs it)
abbrev pub if_there : Option (Option ℕ) → Option ℕ
if_there (Some x) = x
if_there None = None

-- what a table of the offsets has (only the proof of decode_code needs it)
abbrev pub found : List (Option ℕ) → ℕ → Option ℕ
found table offset = if_there (slice_get table offset)

-- the same with one more start, of which only the first counts (only the proof of decode_code needs it)
abbrev pub noted : Option ℕ → ℕ → ℕ → ℕ → Option ℕ
noted before start number offset = or_else before (if nat_eq offset start then Some number else None)

-- the number of the instruction at a target (only the proof of decode_code needs it)
abbrev pub aim_in : List (Option ℕ) → ℤ → Result ℕ FormatKind
aim_in table (pos offset) = due bad.BadTarget (found table offset)
aim_in table (negsuc n) = Err bad.BadTarget
