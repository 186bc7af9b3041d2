-- The instructions of a code, or its first fault (JVMS 4.9.1).
use Rattle.std.specs.Prelude.{◌≡◌, ℕ, List, length, Some, Result, Ok, Err}
use Rattle.std.specs.List.{flat_map}
use Rattle.jv_base.specs.Mutf8.{IsUnits}
use Rattle.jv_base.specs.Outcome.{◌>>=◌}
use Rattle.jv_base.specs.Place.{start}
use Rattle.format_reading.specs.Spelling.{AllStand}
use Rattle.format_reading.specs.declared.fault.FormatFault.{FormatFault}
use Rattle.class_model.specs.declared.op.Op.{Op}
use Rattle.class_model.specs.declared.pool.Entry.{Entry}
use Rattle.class_model.specs.Pool.{units_at}
use Rattle.class_model.specs.InstructionMeaning.{aim_at}
use Rattle.class_model.specs.InstructionStructure.{Info, info_bytes, starts_of}
use Rattle.class_model.specs.Instructions.{IsOp, Begins, IsLeftOutCode}
use Rattle.class_model.specs.ReadingCode.{CodeRead, instructions, has_left_out, left_out_kind, code_read, ops_of}
use Rattle.code_read.specs.declared.decoding.Decoded.{Decoded}
use Rattle.code_read.specs.declared.fault.CodeFault.{CodeFault}
use Rattle.code_read.specs.declared.fault.CodeFault.TheVariants as code
use Rattle.code_read.specs.declared.unaimed.Placed.{Placed}
use Rattle.code_read.specs.Decoding.{placed_to_end}
use Rattle.code_read.specs.Fault.{code_fault, wrong_of}
use Rattle.code_read.specs.Targets.{collected, placed_aimed, starts_of as starts_placed}

-- ---- by the reading of class files

-- instructions with their starts, or the first of them with a target that is the start of none (JVMS 4.9.1)
abbrev pub with_starts : List Info → Result (List Op) FormatFault → Result Decoded CodeFault
with_starts infos (Ok ops) = Ok (record { ops = ops; starts = starts_of infos })
with_starts infos (Err f) = Err (code.BadTarget f.offset)

-- what was read of a code, as it is decoded (the project's own: the faults of a code alone)
abbrev pub as_decoded : List Entry → Result CodeRead FormatFault → Result Decoded CodeFault
as_decoded pool (Ok (instructions infos)) = with_starts infos (ops_of pool 0 infos)
as_decoded pool (Ok (has_left_out offset opcode)) = Err (code.LeftOutOpcode offset opcode)
as_decoded pool (Err f) = Err (code_fault f.offset (wrong_of f.kind))

-- the instructions of a code with their starts, or its first fault; a target is asked for only where each instruction
-- is one (JVMS 4.7.3, 4.9.1; which fault comes first is the project's own)
unfoldable pub code_decoded : List Entry → List ℕ → Result Decoded CodeFault
code_decoded pool bytes = as_decoded pool (code_read pool bytes)

-- the units of the texts in a pool are numbers of 16 bits (JVMS 4.4.7)
abbrev pub HaveUnits : List Entry → Type 0
HaveUnits pool = (index : ℕ) (units : List ℕ) → units_at pool index ≡ Some units → IsUnits units

-- the bytes of a code stand for these instructions, which begin at these offsets; a target is the number of one of them
-- (JVMS 4.7.3, 4.9.1)
abbrev pub IsDecoded : List Entry → List ℕ → Decoded → Type 0
IsDecoded pool code decoded = (infos : List Info) × (code ≡ flat_map info_bytes infos)
    × (decoded.starts ≡ starts_of infos)
    × AllStand info_bytes (IsOp (Begins (starts_of infos)) pool) 0 infos decoded.ops

-- where an instruction is told as left out, the bytes of the code have such an instruction behind others that are none
-- (JVMS 4.9.1)
abbrev pub ToldLeftOut : List Entry → List ℕ → CodeFault → Type 0
ToldLeftOut pool bytes (code.LeftOutOpcode offset opcode) = IsLeftOutCode pool bytes (left_out_kind opcode)
ToldLeftOut pool bytes _ = Unit {0}

-- ---- in the steps of the decoder (the project's own: in which order faults are met)

-- the instructions with their starts, or the first of them with a target that is the start of none
abbrev pub all_decoded : List Placed → Result Decoded CodeFault
all_decoded placed = do
  ops ← collected (placed_aimed (aim_at (starts_placed placed))) placed
  Ok (record { ops = ops; starts = starts_placed placed })

-- the instructions of a code with their starts: first each is read, then each target is found
unfoldable pub decoded : List Entry → List ℕ → Result Decoded CodeFault
decoded pool bytes = do
  placed ← placed_to_end (length bytes) pool (start bytes)
  all_decoded placed
