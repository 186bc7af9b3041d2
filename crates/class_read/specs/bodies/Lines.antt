-- The line of each instruction (JVMS 4.7.12; only the proof of read_class needs it).
use Rattle.std.specs.Prelude.{ℕ, ◌+◌, List, [], ◌∷◌, fold, nat_eq, nat_lt, Option, Some, None, if◌then◌else◌}
use Rattle.frame_read.specs.bodies.Numbers.{first_of_two}
use Rattle.class_model.specs.declared.op.Op.{Op}
use Rattle.class_model.specs.declared.code.Ins.{Ins}
use Rattle.class_model.specs.LineNumbers.{LineNumber, line_at}

-- the instructions that begin at these offsets, each with the line that an offset has
abbrev pub lined_by : (ℕ → Option ℕ) → List ℕ → List Op → List Ins
lined_by line [] ops = []
lined_by line (start ∷ starts) [] = []
lined_by line (start ∷ starts) (o ∷ ops) = record { op = o; line = line start } ∷ lined_by line starts ops

-- the same by the rows of the LineNumberTables
abbrev pub lined : List LineNumber → List ℕ → List Op → List Ins
lined rows starts ops = lined_by (line_at rows) starts ops

-- of the rows that start at an offset the last one counts
abbrev pub last_there : ℕ → Option ℕ → LineNumber → Option ℕ
last_there offset line row = if nat_eq offset row.start_pc then Some row.line_number else line

-- the line of the last row that starts at an offset, if one does
abbrev pub line_there : List LineNumber → ℕ → Option ℕ
line_there rows offset = fold (last_there offset) None rows

-- lines of offsets one behind the other: one that is missing is the one before
abbrev pub carried : Option ℕ → List (Option ℕ) → List (Option ℕ)
carried before [] = []
carried before (line ∷ lines) = first_of_two line before ∷ carried (first_of_two line before) lines

-- how many offsets there are up to one, where there were so many up to others
abbrev pub past : ℕ → ℕ → ℕ
past count start = if nat_lt start count then count else start + 1

-- how many offsets there are up to the last of these
abbrev pub offsets_up_to : List ℕ → ℕ
offsets_up_to starts = fold past 0 starts
