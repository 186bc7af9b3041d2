-- Reading the instructions of a code from left to right (JVMS 4.9.1, 6.5).
use Rattle.std.specs.Prelude.{ℕ, zero, suc, ◌+◌, ◌-◌, ◌^◌, ℤ, ◌-ℤ◌, int_lt, int_le, unsigned_abs, Bool, true, false}
use Rattle.std.specs.Prelude.{◌&&◌, ◌||◌, List, [], ◌∷◌, length, slice_get, Option, Some, None, is_some}
use Rattle.std.specs.Prelude.{option_and_then, Result, Ok, Err, nat_lt, nat_le, ◌==◌, if◌then◌else◌}
use Rattle.std.specs.Int.{w32, cast_signed}
use Rattle.jv_base.specs.Place.{Place, start}
use Rattle.jv_base.specs.declared.types.FieldType.{FieldType}
use Rattle.format_reading.specs.Fault.{fault}
use Rattle.format_reading.specs.Reader.{FormatReader, u1, u2, u4, bytes, lead, item, give, here, many, ◌>>=◌}
use Rattle.format_reading.specs.declared.fault.FormatFault.{FormatFault}
use Rattle.format_reading.specs.declared.fault.FormatKind.{FormatKind}
use Rattle.format_reading.specs.declared.fault.FormatKind.TheVariants as bad
use Rattle.class_model.specs.declared.pool.Entry.{Entry}
use Rattle.class_model.specs.declared.op.Op.{Op}
use Rattle.class_model.specs.declared.class.LeftKind.{LeftKind}
use Rattle.class_model.specs.declared.class.LeftKind.TheVariants as left
use Rattle.class_model.specs.Between.{between}
use Rattle.class_model.specs.Opcodes.{plain_op, local_op, branch_op, field_op, method_op, type_op, array_type_of}
use Rattle.class_model.specs.Opcodes.{is_left_out_local, is_left_out_array_type, is_left_out_opcode}
use Rattle.class_model.specs.InstructionStructure.{MatchOffset, Info, Plain, Bipush, Sipush, Ldc, LdcWide, Local}
use Rattle.class_model.specs.InstructionStructure.{WideLocal, Iinc, WideIinc, Branch, GotoWide, TableSwitch}
use Rattle.class_model.specs.InstructionStructure.{LookupSwitch, MemberOperand, InvokeInterface, ClassOperand, NewArray}
use Rattle.class_model.specs.InstructionStructure.{MultiNewArray, info_bytes, pad_length, starts_of}
use Rattle.class_model.specs.Instructions.{is_left_out_load}
use Rattle.class_model.specs.InstructionMeaning.{op_of, aim_at, loaded, loaded_wide, member_op, class_op, count_of}
use Rattle.class_model.specs.Lookups.{test, type_at, interface_methodref_at}
use Rattle.class_model.specs.OpcodeNames.{BIPUSH, SIPUSH, LDC, LDC_W, LDC2_W, IINC, TABLESWITCH, LOOKUPSWITCH}
use Rattle.class_model.specs.OpcodeNames.{INVOKEINTERFACE, INVOKEDYNAMIC, NEW, NEWARRAY, WIDE, MULTIANEWARRAY, GOTO_W}

-- ---- one instruction

-- an instruction, or the opcode of one that is left out (JVMS 6.5; that instructions are left out is the project's own)
pub data Read : Type 0 where
  instruction : Info → Read
  left_out : (opcode : ℕ) → Read

-- a constant that can't be loaded here, or else an instruction; ldc, ldc_w, ldc2_w and invokedynamic name a constant
-- (the project's own: which kind is left out)
abbrev pub left_out_kind : ℕ → LeftKind
left_out_kind opcode = if between LDC LDC2_W opcode || opcode == INVOKEDYNAMIC then left.Constant else left.Opcode

-- an instruction that was read as far as this needs nothing more (JVMS 6.5)
abbrev pub whole : Info → FormatReader Read
whole info = give (instruction info)

-- what follows an operand that has a meaning (the project's own: which fault is due)
abbrev pub if_meant : {A B : Type 0} → Option A → B → Result B FormatKind
if_meant (Some x) y = Ok y
if_meant None y = Err bad.BadOperand

-- the entry at an index, if there is one, is a constant that no instruction loads here
-- (the project's own: such a constant is left out)
abbrev pub is_left_out_at : Option Entry → Bool
is_left_out_at (Some e) = is_left_out_load e
is_left_out_at None = false

-- an instruction that loads a constant (JVMS 6.5.ldc, 6.5.ldc_w, 6.5.ldc2_w)
abbrev pub load_read : List Entry → ℕ → ℕ → Option Op → Info → Result Read FormatKind
load_read pool opcode index meaning info =
    if is_left_out_at (slice_get pool index) then Ok (left_out opcode) else if_meant meaning (instruction info)

-- ldc: one byte of index, of an int or a string (JVMS 6.5)
abbrev pub ldc : List Entry → FormatReader Read
ldc pool = item u1 (λ index. load_read pool LDC index (loaded pool index) (Ldc index))

-- ldc_w and ldc2_w: two bytes of index; a long is loaded by ldc2_w alone (JVMS 6.5)
abbrev pub ldc_wide : List Entry → ℕ → FormatReader Read
ldc_wide pool opcode = item u2
    (λ index. load_read pool opcode index (loaded_wide opcode pool index) (LdcWide opcode index))

-- an instruction whose one operand is a byte: bipush, and those of a slot without wide (JVMS 6.5)
abbrev pub one_byte : (ℕ → Info) → FormatReader Read
one_byte make = do
  operand ← u1
  whole (make operand)

-- an instruction whose one operand has two bytes: sipush, branches, and those of a slot behind wide (JVMS 6.5)
abbrev pub two_bytes : (ℕ → Info) → FormatReader Read
two_bytes make = do
  operand ← u2
  whole (make operand)

-- iinc: a slot and a summand, of one byte each (JVMS 6.5)
abbrev pub iinc : FormatReader Read
iinc = do
  index ← u1
  const ← u1
  whole (Iinc index const)

-- iinc behind wide: a slot and a summand, of two bytes each (JVMS 6.5)
abbrev pub wide_iinc : FormatReader Read
wide_iinc = do
  index ← u2
  const ← u2
  whole (WideIinc index const)

-- what stands behind wide (JVMS 6.5.wide)
abbrev pub widened : ℕ → Result (FormatReader Read) FormatKind
widened opcode =
    if opcode == IINC then Ok wide_iinc
    else if is_left_out_local opcode then Ok (give (left_out WIDE))
    else if is_some (local_op opcode) then Ok (two_bytes (λ index. WideLocal opcode index))
    else Err bad.BadOpcode

-- goto_w: an offset of four bytes (JVMS 6.5)
abbrev pub goto_wide : FormatReader Read
goto_wide = do
  offset ← u4
  whole (GotoWide offset)

-- how many offsets a tableswitch has, whose high is at least its low (JVMS 6.5.tableswitch)
abbrev pub table_length : ℕ → ℕ → ℕ
table_length low high = unsigned_abs (cast_signed w32 high -ℤ cast_signed w32 low) + 1

-- as signed numbers low is at most high, else high is at fault (JVMS 6.5)
abbrev pub table_high : ℕ → ℕ → Result ℕ FormatKind
table_high low high = if int_le (cast_signed w32 low) (cast_signed w32 high) then Ok high else Err bad.BadOperand

-- tableswitch at an offset of the code, which decides how many bytes pad it; what they are is free
-- (JVMS 6.5.tableswitch)
abbrev pub table_switch : ℕ → FormatReader Read
table_switch at = do
  pad ← bytes (pad_length at)
  default ← u4
  low ← u4
  high ← item u4 (table_high low)
  offsets ← many (table_length low high) u4
  whole (TableSwitch pad default low high offsets)

-- npairs is a signed number that isn't negative (JVMS 6.5.lookupswitch)
abbrev pub lookup_count : ℕ → Result ℕ FormatKind
lookup_count n = if nat_lt n (2 ^ 31) then Ok n else Err bad.BadOperand

-- a key is greater than the one before (JVMS 6.5.lookupswitch)
abbrev pub ascends : Option ℕ → ℕ → Bool
ascends None key = true
ascends (Some previous) key = int_lt (cast_signed w32 previous) (cast_signed w32 key)

-- the key behind another is at fault where it does not ascend (JVMS 6.5)
abbrev pub lookup_key : Option ℕ → ℕ → Result ℕ FormatKind
lookup_key previous key = if ascends previous key then Ok key else Err bad.BadOperand

-- n pairs of match and offset, behind a key that may have come before (JVMS 6.5.lookupswitch)
unfoldable pub match_offsets : ℕ → Option ℕ → FormatReader (List MatchOffset)
match_offsets zero previous = give []
match_offsets (suc n) previous = do
  key ← item u4 (lookup_key previous)
  offset ← u4
  others ← match_offsets n (Some key)
  give (record { key = key; offset = offset } ∷ others)

-- lookupswitch at an offset of the code, which decides how many bytes pad it; what they are is free
-- (JVMS 6.5.lookupswitch)
abbrev pub lookup_switch : ℕ → FormatReader Read
lookup_switch at = do
  pad ← bytes (pad_length at)
  default ← u4
  n ← item u4 lookup_count
  pairs ← match_offsets n None
  whole (LookupSwitch pad default pairs)

-- the index of a field or a method; it has to lead to what the opcode asks for (JVMS 4.9.1)
abbrev pub member : List Entry → ℕ → FormatReader Read
member pool opcode = item u2
    (λ index. if_meant (member_op opcode pool index) (instruction (MemberOperand opcode index)))

-- the index of a class or an array type; for new it has to be a class (JVMS 4.9.1)
abbrev pub class_operand : List Entry → ℕ → FormatReader Read
class_operand pool opcode = item u2
    (λ index. if_meant (class_op opcode pool index) (instruction (ClassOperand opcode index)))

-- the count is the number of argument words by the descriptor, with that of the object (JVMS 6.5)
abbrev pub is_count : Option ℕ → ℕ → Bool
is_count (Some wanted) n = n == wanted
is_count None n = false

-- the count that invokeinterface has to tell for the method at an index (JVMS 6.5.invokeinterface)
abbrev pub count_at : List Entry → ℕ → Option ℕ
count_at pool index = option_and_then count_of (interface_methodref_at pool index)

-- invokeinterface: the method of an interface, its count, and a byte that is zero (JVMS 6.5)
abbrev pub invoke_interface : List Entry → FormatReader Read
invoke_interface pool = do
  index ← item u2 (λ index. if_meant (interface_methodref_at pool index) index)
  count ← item u1 (λ n. if is_count (count_at pool index) n then Ok n else Err bad.BadOperand)
  last ← item u1 (λ n. test bad.BadOperand (n == 0))
  whole (InvokeInterface index count)

-- the operand of newarray (JVMS 6.5.newarray)
abbrev pub array_type_read : ℕ → Result Read FormatKind
array_type_read atype =
    if is_left_out_array_type atype then Ok (left_out NEWARRAY) else if_meant (array_type_of atype)
    (instruction (NewArray atype))

-- of the dimensions of its type at least one is made (JVMS 4.9.1, 6.5.multianewarray)
abbrev pub are_dimensions : Option FieldType → ℕ → Bool
are_dimensions (Some ty) n = nat_lt 0 n && nat_le n ty.dims
are_dimensions None n = false

-- multianewarray: an array type, and how many of its dimensions are made (JVMS 4.9.1)
abbrev pub multi_new_array : List Entry → FormatReader Read
multi_new_array pool = do
  index ← item u2 (λ index. if_meant (type_at pool index) index)
  dimensions ← item u1 (λ n. if are_dimensions (type_at pool index) n then Ok n else Err bad.BadOperand)
  whole (MultiNewArray index dimensions)

-- an opcode that names a field or a method, the interface methods of invokeinterface aside (JVMS 6.5)
abbrev pub is_member_opcode : ℕ → Bool
is_member_opcode opcode = is_some (field_op opcode) || is_some (method_op opcode)

-- an opcode that names a class or an array type, multianewarray aside: new, anewarray, checkcast, instanceof (JVMS 6.5)
abbrev pub is_class_opcode : ℕ → Bool
is_class_opcode opcode = opcode == NEW || is_some (type_op opcode)

-- what an opcode at an offset of the code begins (JVMS 6.5)
abbrev pub begun : List Entry → ℕ → ℕ → Result (FormatReader Read) FormatKind
begun pool at opcode =
    if is_some (plain_op opcode) then Ok (whole (Plain opcode))
    else if opcode == BIPUSH then Ok (one_byte (λ byte. Bipush byte))
    else if opcode == SIPUSH then Ok (two_bytes (λ short. Sipush short))
    else if opcode == LDC then Ok (ldc pool)
    else if opcode == LDC_W || opcode == LDC2_W then Ok (ldc_wide pool opcode)
    else if is_some (local_op opcode) then Ok (one_byte (λ index. Local opcode index))
    else if opcode == IINC then Ok iinc
    else if opcode == WIDE then Ok (lead u1 widened)
    else if is_some (branch_op opcode) then Ok (two_bytes (λ offset. Branch opcode offset))
    else if opcode == GOTO_W then Ok goto_wide
    else if opcode == TABLESWITCH then Ok (table_switch at)
    else if opcode == LOOKUPSWITCH then Ok (lookup_switch at)
    else if is_member_opcode opcode then Ok (member pool opcode)
    else if opcode == INVOKEINTERFACE then Ok (invoke_interface pool)
    else if is_class_opcode opcode then Ok (class_operand pool opcode)
    else if opcode == NEWARRAY then Ok (item u1 array_type_read)
    else if opcode == MULTIANEWARRAY then Ok (multi_new_array pool)
    else if opcode == INVOKEDYNAMIC || is_left_out_opcode opcode then Ok (give (left_out opcode))
    else Err bad.BadOpcode

-- a code that ends inside an instruction is a fault of its own, not a file that ends too soon (JVMS 4.9.1)
abbrev pub in_code : FormatKind → FormatKind
in_code bad.Cut = bad.BadCode
in_code kind = kind

-- each fault of an instruction is one at its first byte, whichever operand is wrong
-- (the project's own: the instruction is at fault)
abbrev pub at_instruction : {A : Type 0} → ℕ → Result (A × Place) FormatFault → Result (A × Place) FormatFault
at_instruction at (Ok x) = Ok x
at_instruction at (Err f) = Err (fault at (in_code f.kind))

-- an instruction of a code that begins at the offset from (JVMS 6.5)
unfoldable pub read_instruction : List Entry → ℕ → FormatReader Read
read_instruction pool from p = at_instruction p.at (lead u1 (begun pool (p.at - from)) p)

-- ---- all of them

-- a code: its instructions, or the offset and the opcode of the first that is left out
-- (JVMS 4.7.3; that instructions are left out is the project's own)
pub data CodeRead : Type 0 where
  instructions : List Info → CodeRead
  has_left_out : (offset opcode : ℕ) → CodeRead

-- an instruction before those that were read; before one that is left out it no longer counts (JVMS 4.7.3)
abbrev pub in_front : Info → CodeRead → CodeRead
in_front info (instructions infos) = instructions (info ∷ infos)
in_front info (has_left_out offset opcode) = has_left_out offset opcode

-- what follows what was read at an offset of the code; behind an instruction that is left out the bytes up to the end
-- are passed over (JVMS 4.7.3; that the rest is passed over is the project's own)
abbrev pub goes_on : FormatReader CodeRead → ℕ → ℕ → Read → FormatReader CodeRead
goes_on others offset end (instruction info) = do
  behind ← others
  give (in_front info behind)
goes_on others offset end (left_out opcode) = do
  at ← here
  skipped ← bytes (end - at)
  give (has_left_out offset opcode)

-- the instructions of a code that begins at the offset from and ends at another; n is at least how many bytes are left
-- (JVMS 4.7.3, 4.9.1)
unfoldable pub until_end : ℕ → List Entry → ℕ → ℕ → FormatReader CodeRead
until_end zero pool from end = give (instructions [])
until_end (suc n) pool from end = do
  at ← here
  if nat_le end at then give (instructions []) else (do
    read ← read_instruction pool from
    goes_on (until_end n pool from end) (at - from) end read)

-- what was read, without the place behind it (the project's own: a code alone ends nowhere)
abbrev pub without_place : {A : Type 0} → Result (A × Place) FormatFault → Result A FormatFault
without_place (Ok x) = Ok x.0
without_place (Err f) = Err f

-- a code alone, from its first byte on; an instruction that the end cuts is BadCode here; targets are judged by ops_of
-- (JVMS 4.9.1)
unfoldable pub code_read : List Entry → List ℕ → Result CodeRead FormatFault
code_read pool code = without_place (until_end (length code) pool 0 (length code) (start code))

-- ---- targets

-- an instruction before others: of several faults the one at the least offset is told
-- (the project's own: the first fault counts)
abbrev pub op_then : ℕ → Result Op FormatKind → Result (List Op) FormatFault → Result (List Op) FormatFault
op_then at (Ok o) (Ok os) = Ok (o ∷ os)
op_then at (Ok o) (Err f) = Err f
op_then at (Err kind) others = Err (fault at kind)

-- the instructions from an offset of the code on, or the first whose target is none; the code begins at the offset from
-- (JVMS 4.9.1)
unfoldable pub ops_from : (ℤ → Result ℕ FormatKind) → List Entry → ℕ → ℕ → List Info → Result (List Op) FormatFault
ops_from aim pool from at [] = Ok []
ops_from aim pool from at (info ∷ infos) =
    op_then (from + at) (op_of aim pool at info) (ops_from aim pool from (at + length (info_bytes info)) infos)

-- the instructions of a whole code that begins at the offset from; a target is one of their own numbers (JVMS 4.9.1)
abbrev pub ops_of : List Entry → ℕ → List Info → Result (List Op) FormatFault
ops_of pool from infos = ops_from (aim_at (starts_of infos)) pool from 0 infos
