-- Lines of instructions and ranges of methods, one by one (only the proofs of bodies need it).
use Rattle.std.specs.Prelude.{ℕ, Bool, false, Option, Some, None}
use Rattle.class_model.specs.declared.class.Method.{Method}
use Rattle.mapping_file.specs.declared.mapping.Range.{Range}
use Rattle.pair_clauses.specs.LineRanges.{is_outside, leaves_range}

-- an instruction has a line outside a range
abbrev pub is_line_outside : Range → Option ℕ → Bool
is_line_outside r None = false
is_line_outside r (Some line) = is_outside r line

-- a method that there is leaves the range that there is
abbrev pub leaves_at : Option (Option Range) → Option Method → Bool
leaves_at (Some range) (Some new) = leaves_range range new.code
leaves_at _ _ = false
