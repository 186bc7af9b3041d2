-- The instruction that its bytes stand for, computed (JVMS 6.5).
use Rattle.std.specs.Prelude.{ℕ, ◌+◌, ℤ, pos, negsuc, Bool, true, List, [], ◌∷◌, slice_get, position, nat_eq, nat_le}
use Rattle.std.specs.Prelude.{Option, Some, None, option_map, option_and_then, Result, Ok, Err, ◌==◌, if◌then◌else◌}
use Rattle.std.specs.Int.{w8, w16, w32, cast_signed}
use Rattle.jv_base.specs.Outcome.{◌>>=◌}
use Rattle.jv_base.specs.Types.{argument_words}
use Rattle.jv_base.specs.declared.types.FieldType.{FieldType}
use Rattle.jv_base.specs.declared.types.MethodType.{MethodType}
use Rattle.format_reading.specs.declared.fault.FormatKind.{FormatKind}
use Rattle.format_reading.specs.declared.fault.FormatKind.TheVariants as bad
use Rattle.class_model.specs.declared.pool.Entry.{Entry}
use Rattle.class_model.specs.declared.pool.Entry.TheVariants as entry
use Rattle.class_model.specs.declared.op.MemberRef.{MemberRef}
use Rattle.class_model.specs.declared.op.Case.{Case}
use Rattle.class_model.specs.declared.op.Op.{Op}
use Rattle.class_model.specs.declared.op.Op.TheVariants as op
use Rattle.class_model.specs.ConstantPool.{string_units_at}
use Rattle.class_model.specs.Opcodes.{plain_op, local_op, branch_op, field_op, method_op, takes_interface_method}
use Rattle.class_model.specs.Opcodes.{type_op, array_type_of}
use Rattle.class_model.specs.InstructionStructure.{MatchOffset, Info, Plain, Bipush, Sipush, Ldc, LdcWide, Local}
use Rattle.class_model.specs.InstructionStructure.{WideLocal, Iinc, WideIinc, Branch, GotoWide, TableSwitch}
use Rattle.class_model.specs.InstructionStructure.{LookupSwitch, MemberOperand, InvokeInterface, ClassOperand, NewArray}
use Rattle.class_model.specs.InstructionStructure.{MultiNewArray}
use Rattle.class_model.specs.Instructions.{branch_target}
use Rattle.class_model.specs.Lookups.{due, class_at, value_of, type_at, fieldref_at, methodref_at}
use Rattle.class_model.specs.Lookups.{interface_methodref_at, method_type_of}
use Rattle.class_model.specs.OpcodeNames.{LDC_W, NEW, ANEWARRAY}

-- ---- operands

-- one or the other (the project's own: constants of several kinds are tried)
abbrev pub or_else : {A : Type 0} → Option A → Option A → Option A
or_else (Some x) other = Some x
or_else None other = other

-- what an opcode makes of its operand (the project's own: which fault is due)
abbrev pub op_of_operand : {A : Type 0} → Option (A → Op) → A → Result Op FormatKind
op_of_operand table operand = due bad.BadOperand (option_map (λ make. make operand) table)

-- an int (JVMS 6.5.ldc)
abbrev pub int_in : Option Entry → Option Op
int_in (Some (entry.Integer n)) = Some (op.PushInt n)
int_in _ = None

-- an int or a string (JVMS 6.5.ldc)
abbrev pub loaded : List Entry → ℕ → Option Op
loaded pool index = or_else (int_in (slice_get pool index))
    (option_map (λ units. op.PushText units) (string_units_at pool index))

-- a long (JVMS 6.5.ldc2_w)
abbrev pub long_in : Option Entry → Option Op
long_in (Some (entry.Long n)) = Some (op.PushLong n)
long_in _ = None

-- what ldc_w or ldc2_w loads (JVMS 6.5.ldc_w, 6.5.ldc2_w)
abbrev pub loaded_wide : ℕ → List Entry → ℕ → Option Op
loaded_wide opcode pool index = if opcode == LDC_W then loaded pool index else long_in (slice_get pool index)

-- the reference that an instruction on a method names (JVMS 4.9.1)
abbrev pub method_named : ℕ → List Entry → ℕ → Option MemberRef
method_named opcode pool index =
    or_else (methodref_at pool index)
    (if takes_interface_method opcode then interface_methodref_at pool index else None)

-- an instruction on a field or a method (JVMS 4.9.1)
abbrev pub member_made : Option (MemberRef → Op) → Option (MemberRef → Op) → ℕ → List Entry → ℕ → Option Op
member_made (Some make) on_method opcode pool index = option_map make (fieldref_at pool index)
member_made None (Some make) opcode pool index = option_map make (method_named opcode pool index)
member_made None None opcode pool index = None

-- the instruction that names a field or a method at an index, the interface methods of invokeinterface aside
-- (JVMS 4.9.1)
abbrev pub member_op : ℕ → List Entry → ℕ → Option Op
member_op opcode pool index = member_made (field_op opcode) (method_op opcode) opcode pool index

-- the elements of a new array have at most 254 dimensions (JVMS 4.9.1, anewarray)
abbrev pub can_be_operand : ℕ → FieldType → Bool
can_be_operand opcode ty = if opcode == ANEWARRAY then nat_le ty.dims 254 else true

-- anewarray, checkcast or instanceof of a type (JVMS 4.9.1)
abbrev pub of_type : ℕ → FieldType → Option Op
of_type opcode ty = if can_be_operand opcode ty then option_map (λ make. make ty) (type_op opcode) else None

-- new, anewarray, checkcast and instanceof (JVMS 4.9.1)
abbrev pub class_op : ℕ → List Entry → ℕ → Option Op
class_op opcode pool index =
    if opcode == NEW then option_map (λ name. op.New name) (value_of (class_at pool index))
    else option_and_then (of_type opcode) (type_at pool index)

-- the count of invokeinterface (JVMS 6.5.invokeinterface)
abbrev pub count_of : MemberRef → Option ℕ
count_of reference = option_map (λ (ty : MethodType). argument_words ty.args + 1) (method_type_of reference.ty)

-- ---- switches

-- aim gives the number of the instruction to which an offset of the code leads
module _ (aim : ℤ → Result ℕ FormatKind) (at : ℕ) where
  -- the instruction to which an offset of four bytes leads, counted from the switch itself (JVMS 6.5)
  abbrev pub aimed : ℕ → Result ℕ FormatKind
  aimed offset = aim (branch_target at (cast_signed w32 offset))

  -- the targets of a tableswitch, or the first fault among them (JVMS 6.5.tableswitch)
  abbrev pub all_aimed : List ℕ → Result (List ℕ) FormatKind
  all_aimed [] = Ok []
  all_aimed (offset ∷ offsets) = do
    to ← aimed offset
    others ← all_aimed offsets
    Ok (to ∷ others)

  -- the cases of a lookupswitch, each match as a signed number, or the first fault among the targets
  -- (JVMS 6.5.lookupswitch)
  abbrev pub cases_aimed : List MatchOffset → Result (List Case) FormatKind
  cases_aimed [] = Ok []
  cases_aimed (pair ∷ pairs) = do
    to ← aimed pair.offset
    others ← cases_aimed pairs
    Ok (record { key = cast_signed w32 pair.key; to = to } ∷ others)

  -- tableswitch; a wrong default is found before a wrong case
  -- (JVMS 6.5.tableswitch; the order of faults is the project's own)
  abbrev pub table_switch : ℕ → ℕ → List ℕ → Result Op FormatKind
  table_switch default low offsets = do
    other ← aimed default
    cases ← all_aimed offsets
    Ok (op.TableSwitch (cast_signed w32 low) other cases)

  -- lookupswitch; a wrong default is found before a wrong case
  -- (JVMS 6.5.lookupswitch; the order of faults is the project's own)
  abbrev pub lookup_switch : ℕ → List MatchOffset → Result Op FormatKind
  lookup_switch default pairs = do
    other ← aimed default
    cases ← cases_aimed pairs
    Ok (op.LookupSwitch other cases)

  -- a branch
  abbrev pub branch : Option (ℕ → Op) → ℤ → Result Op FormatKind
  branch table offset = do
    to ← aim (branch_target at offset)
    op_of_operand table to

-- ---- instructions

-- the meaning of an instruction at an offset of a code; of its operands only targets can still be wrong, once it has
-- been read
unfoldable pub op_of : (ℤ → Result ℕ FormatKind) → List Entry → ℕ → Info → Result Op FormatKind
op_of aim pool at (Plain opcode) = due bad.BadOperand (plain_op opcode)
op_of aim pool at (Bipush byte) = Ok (op.PushInt (cast_signed w8 byte))
op_of aim pool at (Sipush short) = Ok (op.PushInt (cast_signed w16 short))
op_of aim pool at (Ldc index) = due bad.BadOperand (loaded pool index)
op_of aim pool at (LdcWide opcode index) = due bad.BadOperand (loaded_wide opcode pool index)
op_of aim pool at (Local opcode index) = op_of_operand (local_op opcode) index
op_of aim pool at (WideLocal opcode index) = op_of_operand (local_op opcode) index
op_of aim pool at (Iinc index const) = Ok (op.Inc index (cast_signed w8 const))
op_of aim pool at (WideIinc index const) = Ok (op.Inc index (cast_signed w16 const))
op_of aim pool at (Branch opcode offset) = branch aim at (branch_op opcode) (cast_signed w16 offset)
op_of aim pool at (GotoWide offset) = branch aim at (Some op.Goto) (cast_signed w32 offset)
op_of aim pool at (TableSwitch pad default low high offsets) = table_switch aim at default low offsets
op_of aim pool at (LookupSwitch pad default pairs) = lookup_switch aim at default pairs
op_of aim pool at (MemberOperand opcode index) = due bad.BadOperand (member_op opcode pool index)
op_of aim pool at (InvokeInterface index count) = due bad.BadOperand
    (option_map (λ reference. op.InvokeInterface reference) (interface_methodref_at pool index))
op_of aim pool at (ClassOperand opcode index) = due bad.BadOperand (class_op opcode pool index)
op_of aim pool at (NewArray atype) = due bad.BadOperand (option_map (λ ty. op.NewArray ty) (array_type_of atype))
op_of aim pool at (MultiNewArray index dimensions) = due bad.BadOperand
    (option_map (λ ty. op.MultiNewArray ty dimensions) (type_at pool index))

-- the number of the instruction that begins at an offset (JVMS 4.9.1)
abbrev pub aim_at : List ℕ → ℤ → Result ℕ FormatKind
aim_at starts (pos offset) = due bad.BadTarget (position (nat_eq offset) starts)
aim_at starts (negsuc n) = Err bad.BadTarget
