-- A range of lines with one line more (only the proof of mapping_of needs it).
use Rattle.std.specs.Prelude.{ℕ, Option, Some, None}
use Rattle.mapping_file.specs.declared.mapping.Range.{Range}
use Rattle.rename_map.specs.MappingOf.{widened}

-- what one line more makes of it
abbrev pub with_line : Option Range → ℕ → Range
with_line None line = record { first = line; last = line }
with_line (Some r) line = widened r line
