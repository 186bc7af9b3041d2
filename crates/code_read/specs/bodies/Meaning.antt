-- What an instruction's bytes stand for before its targets are known, and then with them: parts that only the proofs of
-- bodies need (the project's own: steps of a call).
use Rattle.std.specs.Prelude.{ℕ, zero, suc, is_some, if◌then◌else◌, List, [], ◌∷◌, Option, Some, None, Result}
use Rattle.std.specs.Prelude.{Ok, Err}
use Rattle.jv_base.specs.declared.outcome.Or.{Or}
use Rattle.jv_base.specs.declared.outcome.Or.TheVariants.{Fault}
use Rattle.format_reading.specs.Reader.{FormatReader, u4, item, give, ◌>>=◌}
use Rattle.format_reading.specs.declared.fault.FormatKind.{FormatKind}
use Rattle.format_reading.specs.declared.fault.FormatKind.TheVariants as bad
use Rattle.class_model.specs.declared.pool.Entry.{Entry}
use Rattle.class_model.specs.declared.op.Op.{Op}
use Rattle.class_model.specs.Opcodes.{local_op, branch_op, is_left_out_opcode}
use Rattle.class_model.specs.InstructionStructure.{Local, Branch}
use Rattle.class_model.specs.InstructionStructure.{LookupSwitch}
use Rattle.class_model.specs.ReadingCode.{Read, instruction, left_out, lookup_key, match_offsets, one_byte, two_bytes}
use Rattle.class_model.specs.ReadingCode.{member, class_operand, is_member_opcode, is_class_opcode}
use Rattle.code_read.specs.declared.fault.Wrong.{Wrong}
use Rattle.code_read.specs.declared.fault.Wrong.TheVariants as wrong
use Rattle.code_read.specs.declared.unaimed.Match.{Match}
use Rattle.code_read.specs.declared.unaimed.Unaimed.{Unaimed}
use Rattle.code_read.specs.declared.unaimed.Unaimed.TheVariants as unaimed

-- what an operand means, which has to mean something (only the proof of decode_code needs it)
abbrev pub whole_op : Option Op → Result Unaimed (Or Wrong)
whole_op (Some o) = Ok (unaimed.Whole o)
whole_op None = Err (Fault wrong.Operand)

-- a key that is greater than the one before, and its offset (only the proof of decode_code needs it)
unfoldable pub match_read : Option ℕ → FormatReader Match
match_read previous = do
  key ← item u4 (lookup_key previous)
  offset ← u4
  give (record { key = key; offset = offset })

-- so many of them (only the proof of decode_code needs it)
unfoldable pub matches_from : ℕ → Option ℕ → FormatReader (List Match)
matches_from zero previous = give []
matches_from (suc n) previous = do
  first ← match_read previous
  others ← matches_from n (Some first.key)
  give (first ∷ others)

-- a lookupswitch behind its count (only the proof of decode_code needs it)
abbrev pub matches_behind : List ℕ → ℕ → ℕ → FormatReader Read
matches_behind pad default n = do
  pairs ← match_offsets n None
  give (instruction (LookupSwitch pad default pairs))

-- what an opcode of one of the tables begins (only the proof of decode_code needs it)
abbrev pub begun_by_table : List Entry → ℕ → Result (FormatReader Read) FormatKind
begun_by_table pool opcode =
    if is_some (local_op opcode) then Ok (one_byte (λ index. Local opcode index))
    else if is_some (branch_op opcode) then Ok (two_bytes (λ offset. Branch opcode offset))
    else if is_member_opcode opcode then Ok (member pool opcode)
    else if is_class_opcode opcode then Ok (class_operand pool opcode)
    else if is_left_out_opcode opcode then Ok (give (left_out opcode))
    else Err bad.BadOpcode
