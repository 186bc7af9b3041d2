-- The instructions of a Code, as they are decoded (JVMS 4.7.3, 4.9.1; only the proof of read_class needs it).
use Rattle.std.specs.Prelude.{ℕ, ◌+◌, List, length, Result, Ok, Err}
use Rattle.format_reading.specs.Fault.{fault}
use Rattle.format_reading.specs.Reader.{FormatReader, give, here, of_result, part, ◌>>=◌}
use Rattle.format_reading.specs.declared.fault.FormatFault.{FormatFault}
use Rattle.format_reading.specs.declared.fault.FormatKind.TheVariants as bad
use Rattle.class_model.specs.declared.pool.Entry.{Entry}
use Rattle.class_model.specs.InstructionStructure.{starts_of}
use Rattle.class_model.specs.ReadingCode.{CodeRead, instructions, has_left_out, left_out_kind, until_end, ops_of}
use Rattle.code_read.specs.declared.decoding.Decoded.{Decoded}
use Rattle.code_read.specs.declared.fault.CodeFault.{CodeFault}
use Rattle.code_read.specs.declared.fault.CodeFault.TheVariants as code
use Rattle.class_read.specs.declared.instructions.Instructions.{Instructions}
use Rattle.class_read.specs.declared.instructions.Instructions.TheVariants.{All, LeftOut}

-- what was read of a code that begins at an offset: the instructions with their starts, where each target is one of
-- them, or the kind of the first that is left out
abbrev pub instructions_of : List Entry → ℕ → CodeRead → FormatReader Instructions
instructions_of pool from (instructions infos) = do
  ops ← of_result (ops_of pool from infos)
  give (All (record { ops = ops; starts = starts_of infos }))
instructions_of pool from (has_left_out offset opcode) = give (LeftOut (left_out_kind opcode))

-- the next n bytes as the instructions of the Code at an offset
unfoldable pub read_instructions : List Entry → ℕ → ℕ → FormatReader Instructions
read_instructions pool attribute n = do
  from ← here
  read ← part attribute n (until_end n pool from (from + n))
  instructions_of pool from read

-- ---- of a code alone

-- a fault of a code that begins at an offset, as one of the class file; what is left out is none
abbrev pub or_left_out : ℕ → CodeFault → Result Instructions FormatFault
or_left_out from (code.BadOpcode at) = Err (fault (from + at) bad.BadOpcode)
or_left_out from (code.BadOperand at) = Err (fault (from + at) bad.BadOperand)
or_left_out from (code.Cut at) = Err (fault (from + at) bad.BadCode)
or_left_out from (code.LeftOutOpcode at opcode) = Ok (LeftOut (left_out_kind opcode))
or_left_out from (code.BadTarget at) = Err (fault (from + at) bad.BadTarget)

-- what is decoded of a code that begins at an offset
abbrev pub in_file : ℕ → Result Decoded CodeFault → Result Instructions FormatFault
in_file from (Ok decoded) = Ok (All decoded)
in_file from (Err f) = or_left_out from f

-- the offset in the code that a fault tells
abbrev pub offset_told : CodeFault → ℕ
offset_told (code.BadOpcode at) = at
offset_told (code.BadOperand at) = at
offset_told (code.Cut at) = at
offset_told (code.LeftOutOpcode at opcode) = 0
offset_told (code.BadTarget at) = at

-- how many instructions there are, none where one is left out
abbrev pub count_of : Instructions → ℕ
count_of (All decoded) = length decoded.starts
count_of (LeftOut kind) = 0
