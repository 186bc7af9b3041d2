-- The line that a row of a LineNumberTable tells (JVMS 4.7.12).
use Rattle.std.proofs.Common.{ℕ, Option}
use Rattle.std.specs.Prelude.{option_map}
use Rattle.class_model.specs.LineNumbers.{LineNumber}

-- the line of a row
abbrev pub number : Option LineNumber → Option ℕ
number best = option_map (λ (row : LineNumber). row.line_number) best
