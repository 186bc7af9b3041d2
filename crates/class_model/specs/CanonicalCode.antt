-- The canonical spelling of instructions: the shortest, ldc where the index is at most 255, and goto in place of goto_w
-- (JVMS 6.5; which of its spellings it is, is the project's own).
use Rattle.std.specs.Prelude.{ℕ, ◌+◌, ◌*◌, ℤ, pos, negsuc, ◌+ℤ◌, ◌-ℤ◌, Bool, ◌&&◌, List, [], ◌∷◌, length, map}
use Rattle.std.specs.Prelude.{replicate, slice_index, Option, Some, None, unwrap_or, nat_lt, nat_le, if◌then◌else◌}
use Rattle.std.specs.Int.{w8, w16, w32, cast_unsigned}
use Rattle.std.specs.List.{flat_map}
use Rattle.jv_base.specs.declared.types.FieldType.{FieldType}
use Rattle.jv_base.specs.declared.types.Base.{Base}
use Rattle.jv_base.specs.declared.types.Base.TheVariants as base
use Rattle.class_model.specs.declared.op.MemberRef.{MemberRef}
use Rattle.class_model.specs.declared.op.Case.{Case}
use Rattle.class_model.specs.declared.op.Op.{Op}
use Rattle.class_model.specs.declared.op.Op.TheVariants as op
use Rattle.class_model.specs.declared.op.Kind.{Kind}
use Rattle.class_model.specs.declared.op.Kind.TheVariants as kind
use Rattle.class_model.specs.declared.op.Num.{Num}
use Rattle.class_model.specs.declared.op.Num.TheVariants as num
use Rattle.class_model.specs.declared.op.Elem.{Elem}
use Rattle.class_model.specs.declared.op.Elem.TheVariants as elem
use Rattle.class_model.specs.declared.op.ArithOp.{ArithOp}
use Rattle.class_model.specs.declared.op.ArithOp.TheVariants as arith
use Rattle.class_model.specs.declared.op.ShiftOp.{ShiftOp}
use Rattle.class_model.specs.declared.op.ShiftOp.TheVariants as shift
use Rattle.class_model.specs.declared.op.LogicOp.{LogicOp}
use Rattle.class_model.specs.declared.op.LogicOp.TheVariants as logic
use Rattle.class_model.specs.declared.op.ConvOp.{ConvOp}
use Rattle.class_model.specs.declared.op.ConvOp.TheVariants as conv
use Rattle.class_model.specs.declared.op.Cond.{Cond}
use Rattle.class_model.specs.declared.op.Cond.TheVariants as cond
use Rattle.class_model.specs.declared.code.Ins.{Ins}
use Rattle.class_model.specs.Between.{int_between}
use Rattle.class_model.specs.InstructionStructure.{Info, Plain, Bipush, Sipush, Ldc, LdcWide, Local, WideLocal, Iinc}
use Rattle.class_model.specs.InstructionStructure.{WideIinc, Branch, TableSwitch, LookupSwitch, MemberOperand}
use Rattle.class_model.specs.InstructionStructure.{InvokeInterface, ClassOperand, NewArray, MultiNewArray, info_bytes}
use Rattle.class_model.specs.InstructionStructure.{pad_length}
use Rattle.class_model.specs.InstructionMeaning.{count_of}
use Rattle.class_model.specs.declared.constant.PoolConstant.{PoolConstant}
use Rattle.class_model.specs.declared.constant.PoolConstant.TheVariants.{Integer, Long, Str}
use Rattle.class_model.specs.CanonicalPool.{class_constant, class_constants, string_constants, long_constants}
use Rattle.class_model.specs.CanonicalPool.{type_name, fieldref, methodref, with_parts, index_of}
use Rattle.class_model.specs.OpcodeNames.{NOP, ACONST_NULL, LCONST_0, LDC_W, LDC2_W, ILOAD, ILOAD_0, IALOAD, ISTORE}
use Rattle.class_model.specs.OpcodeNames.{ISTORE_0, IASTORE, POP, POP2, DUP, DUP_X1, DUP_X2, DUP2, DUP2_X1, DUP2_X2}
use Rattle.class_model.specs.OpcodeNames.{SWAP, IADD, ISUB, IMUL, IDIV, IREM, INEG, ISHL, ISHR, IUSHR, IAND, IOR}
use Rattle.class_model.specs.OpcodeNames.{IXOR, I2L, L2I, I2B, I2C, I2S, LCMP, IFEQ, IF_ICMPEQ, IF_ACMPEQ, IF_ACMPNE}
use Rattle.class_model.specs.OpcodeNames.{GOTO, IRETURN, RETURN, GETSTATIC, PUTSTATIC, GETFIELD, PUTFIELD}
use Rattle.class_model.specs.OpcodeNames.{INVOKEVIRTUAL, INVOKESPECIAL, INVOKESTATIC, NEW, ANEWARRAY, ARRAYLENGTH}
use Rattle.class_model.specs.OpcodeNames.{ATHROW, CHECKCAST, INSTANCEOF, IFNULL, IFNONNULL}

-- ---- the order in which the standard goes through types and comparisons

-- int, long, float, double, reference, as in iload, lload, fload, dload, aload (JVMS 6.5)
abbrev pub kind_number : Kind → ℕ
kind_number kind.Int = 0
kind_number kind.Long = 1
kind_number kind.Ref = 4

-- int, long, float, double, as in iadd, ladd, fadd, dadd (JVMS 6.5)
abbrev pub num_number : Num → ℕ
num_number num.Int = 0
num_number num.Long = 1

-- the types of array elements as in iaload, laload, faload, daload, aaload, baload, caload, saload (JVMS 6.5)
abbrev pub elem_number : Elem → ℕ
elem_number elem.Int = 0
elem_number elem.Long = 1
elem_number elem.Ref = 4
elem_number elem.Byte = 5
elem_number elem.Char = 6
elem_number elem.Short = 7

-- the comparisons as in ifeq, ifne, iflt, ifge, ifgt, ifle (JVMS 6.5)
abbrev pub cond_number : Cond → ℕ
cond_number cond.Eq = 0
cond_number cond.Ne = 1
cond_number cond.Lt = 2
cond_number cond.Ge = 3
cond_number cond.Gt = 4
cond_number cond.Le = 5

-- ---- opcodes (JVMS 6.5, 7)

-- of add, sub, mul, div and rem there is one for each of int, long, float and double (JVMS 6.5, 7)
abbrev pub arith_opcode : ArithOp → ℕ
arith_opcode arith.Add = IADD
arith_opcode arith.Sub = ISUB
arith_opcode arith.Mul = IMUL
arith_opcode arith.Div = IDIV
arith_opcode arith.Rem = IREM

-- the opcode for an int, directly before the one for a long
abbrev pub shift_opcode : ShiftOp → ℕ
shift_opcode shift.Shl = ISHL
shift_opcode shift.Shr = ISHR
shift_opcode shift.Ushr = IUSHR

-- the opcode for an int, directly before the one for a long
abbrev pub logic_opcode : LogicOp → ℕ
logic_opcode logic.And = IAND
logic_opcode logic.Or = IOR
logic_opcode logic.Xor = IXOR

-- the conversions in which no float and no double takes part (JVMS 6.5, 7)
abbrev pub conv_opcode : ConvOp → ℕ
conv_opcode conv.I2l = I2L
conv_opcode conv.L2i = L2I
conv_opcode conv.I2b = I2B
conv_opcode conv.I2c = I2C
conv_opcode conv.I2s = I2S

-- ireturn, lreturn, areturn, and return where there is no value (JVMS 6.5, 7)
abbrev pub return_opcode : Option Kind → ℕ
return_opcode (Some k) = IRETURN + kind_number k
return_opcode None = RETURN

-- the operand of newarray (JVMS 6.5, table 6.5.newarray-A)
abbrev pub array_type_code : Base → ℕ
array_type_code base.Boolean = 4
array_type_code base.Char = 5
array_type_code base.Byte = 8
array_type_code base.Short = 9
array_type_code base.Int = 10
array_type_code base.Long = 11
array_type_code _ = 0

-- ---- pushes

-- the number fits the operand of sipush (JVMS 6.5.sipush)
abbrev pub is_short : ℤ → Bool
is_short n = int_between (negsuc 32767) (pos 32767) n

-- ldc, whose index is a byte, or ldc_w (JVMS 6.5.ldc, 6.5.ldc_w)
abbrev pub load_constant : List PoolConstant → PoolConstant → Info
load_constant pool k = if nat_le (index_of pool k) 255 then Ldc (index_of pool k) else LdcWide LDC_W (index_of pool k)

-- iconst_<i> from -1 to 5, bipush from -128 to 127, sipush from -32768 to 32767, else a constant
-- (JVMS 6.5; that the shortest is taken is the project's own)
abbrev pub push_int : List PoolConstant → ℤ → Info
push_int pool n =
    if int_between (negsuc 0) (pos 5) n then Plain (cast_unsigned w8 (n +ℤ pos 3))
    else if int_between (negsuc 127) (pos 127) n then Bipush (cast_unsigned w8 n)
    else if is_short n then Sipush (cast_unsigned w16 n)
    else load_constant pool (Integer n)

-- 0 and 1, which have an instruction lconst_<l> (JVMS 6.5.lconst_l)
abbrev pub is_lconst : ℤ → Bool
is_lconst n = int_between (pos 0) (pos 1) n

-- lconst_0 and lconst_1, else ldc2_w of a constant (JVMS 6.5; that the shortest is taken is the project's own)
abbrev pub push_long : List PoolConstant → ℤ → Info
push_long pool n = if is_lconst n then Plain (LCONST_0 + cast_unsigned w8 n) else LdcWide LDC2_W
    (index_of pool (Long n))

-- ---- slots

-- the opcode that names a slot below 4, else one of the type's and the slot
-- (JVMS 6.5; that the shortest is taken is the project's own)
abbrev pub slot_info : ℕ → ℕ → Kind → ℕ → Info
slot_info opcode first k slot =
    if nat_lt slot 4 then Plain (first + (4 * kind_number k + slot))
    else if nat_lt slot 256 then Local (opcode + kind_number k) slot
    else WideLocal (opcode + kind_number k) slot

-- iinc where the slot fits a byte and the increment a signed byte, else wide iinc (JVMS 6.5.iinc, 6.5.wide)
abbrev pub inc_info : ℕ → ℤ → Info
inc_info slot delta =
    if nat_lt slot 256 && int_between (negsuc 127) (pos 127) delta then Iinc slot (cast_unsigned w8 delta)
    else WideIinc slot (cast_unsigned w16 delta)

-- ---- instructions

-- place gives the offset of an instruction by its number, and at is the offset of this one
module _ (pool : List PoolConstant) (place : ℕ → ℕ) (at : ℕ) where
  -- how far it is to a target (JVMS 6.5)
  abbrev pub distance : ℕ → ℤ
  distance to = pos (place to) -ℤ pos at

  -- the distance as a branch has it: in two bytes, in two's complement (JVMS 6.5)
  abbrev pub near : ℕ → ℕ
  near to = cast_unsigned w16 (distance to)

  -- the distance as a switch has it: in four bytes, in two's complement (JVMS 6.5.tableswitch, 6.5.lookupswitch)
  abbrev pub far : ℕ → ℕ
  far to = cast_unsigned w32 (distance to)

  -- the zeros between a switch's opcode and its default
  -- (JVMS 6.5.tableswitch, 6.5.lookupswitch; that it is 0 is the project's own)
  abbrev pub padding : List ℕ
  padding = replicate (pad_length at) 0

  -- the index of the CONSTANT_Class of a class or an array type (JVMS 4.4.1)
  abbrev pub class_index : FieldType → ℕ
  class_index ty = index_of pool (class_constant (type_name ty))

  -- the instruction with its operands as they are written (JVMS 6.5)
  abbrev pub op_info : Op → Info
  op_info op.Nop = Plain NOP
  op_info op.PushNull = Plain ACONST_NULL
  op_info (op.PushInt n) = push_int pool n
  op_info (op.PushLong n) = push_long pool n
  op_info (op.PushText units) = load_constant pool (Str units)
  op_info (op.Load k slot) = slot_info ILOAD ILOAD_0 k slot
  op_info (op.Store k slot) = slot_info ISTORE ISTORE_0 k slot
  op_info (op.Inc slot delta) = inc_info slot delta
  op_info (op.ALoad e) = Plain (IALOAD + elem_number e)
  op_info (op.AStore e) = Plain (IASTORE + elem_number e)
  op_info op.Pop = Plain POP
  op_info op.Pop2 = Plain POP2
  op_info op.Dup = Plain DUP
  op_info op.DupX1 = Plain DUP_X1
  op_info op.DupX2 = Plain DUP_X2
  op_info op.Dup2 = Plain DUP2
  op_info op.Dup2X1 = Plain DUP2_X1
  op_info op.Dup2X2 = Plain DUP2_X2
  op_info op.Swap = Plain SWAP
  op_info (op.Arith a n) = Plain (arith_opcode a + num_number n)
  op_info (op.Neg n) = Plain (INEG + num_number n)
  op_info (op.Shift s n) = Plain (shift_opcode s + num_number n)
  op_info (op.Logic l n) = Plain (logic_opcode l + num_number n)
  op_info (op.Conv c) = Plain (conv_opcode c)
  op_info op.LCmp = Plain LCMP
  op_info (op.IfZero c to) = Branch (IFEQ + cond_number c) (near to)
  op_info (op.IfCmp c to) = Branch (IF_ICMPEQ + cond_number c) (near to)
  op_info (op.IfRef eq to) = Branch (if eq then IF_ACMPEQ else IF_ACMPNE) (near to)
  op_info (op.IfNull null to) = Branch (if null then IFNULL else IFNONNULL) (near to)
  op_info (op.Goto to) = Branch GOTO (near to)
  op_info (op.TableSwitch low other cases) = TableSwitch padding (far other) (cast_unsigned w32 low)
      (cast_unsigned w32 (low +ℤ pos (length cases) -ℤ pos 1)) (map far cases)
  op_info (op.LookupSwitch other cases) = LookupSwitch padding (far other)
      (map (λ (c : Case). record { key = cast_unsigned w32 c.key; offset = far c.to }) cases)
  op_info (op.Return k) = Plain (return_opcode k)
  op_info (op.GetStatic reference) = MemberOperand GETSTATIC (index_of pool (fieldref reference))
  op_info (op.PutStatic reference) = MemberOperand PUTSTATIC (index_of pool (fieldref reference))
  op_info (op.GetField reference) = MemberOperand GETFIELD (index_of pool (fieldref reference))
  op_info (op.PutField reference) = MemberOperand PUTFIELD (index_of pool (fieldref reference))
  op_info (op.InvokeVirtual reference) = MemberOperand INVOKEVIRTUAL (index_of pool (methodref reference))
  op_info (op.InvokeSpecial reference) = MemberOperand INVOKESPECIAL (index_of pool (methodref reference))
  op_info (op.InvokeStatic reference) = MemberOperand INVOKESTATIC (index_of pool (methodref reference))
  op_info (op.InvokeInterface reference) = InvokeInterface (index_of pool (methodref reference))
      (unwrap_or (count_of reference) 0)
  op_info (op.New name) = ClassOperand NEW (index_of pool (class_constant name))
  op_info (op.NewArray b) = NewArray (array_type_code b)
  op_info (op.ANewArray ty) = ClassOperand ANEWARRAY (class_index ty)
  op_info op.ArrayLength = Plain ARRAYLENGTH
  op_info op.Throw = Plain ATHROW
  op_info (op.CheckCast ty) = ClassOperand CHECKCAST (class_index ty)
  op_info (op.InstanceOf ty) = ClassOperand INSTANCEOF (class_index ty)
  op_info (op.MultiNewArray ty dimensions) = MultiNewArray (class_index ty) dimensions

-- how many bytes an instruction at an offset takes, which its targets don't change (JVMS 4.7.3, 6.5)
abbrev pub size_of : List PoolConstant → ℕ → Op → ℕ
size_of pool at o = length (info_bytes (op_info pool (λ to. 0) at o))

-- where each instruction begins, and where the last one ends (JVMS 4.7.3)
abbrev pub places_from : List PoolConstant → ℕ → List Ins → List ℕ
places_from pool at [] = at ∷ []
places_from pool at (i ∷ ins) = at ∷ places_from pool (at + size_of pool at i.op) ins

-- the places in a code, the first at offset 0; one more than there are instructions, the last of them is code_length
-- (JVMS 4.7.3)
unfoldable pub places : List PoolConstant → List Ins → List ℕ
places pool ins = places_from pool 0 ins

-- instructions as they are written, the first at an offset; all are the places of the whole code (JVMS 4.7.3)
abbrev pub infos_from : List PoolConstant → List ℕ → ℕ → List Ins → List Info
infos_from pool all at [] = []
infos_from pool all at (i ∷ ins) = op_info pool (slice_index all) at i.op ∷ infos_from pool all
    (at + size_of pool at i.op) ins

-- the bytes of the instructions, whose places are all these (JVMS 4.7.3)
unfoldable pub code_bytes : List PoolConstant → List ℕ → List Ins → List ℕ
code_bytes pool all ins = flat_map info_bytes (infos_from pool all 0 ins)

-- ---- constants

-- the constant that a push loads by ldc, which has the lowest indices
-- (JVMS 6.5.ldc; the lowest indices are the project's own)
abbrev pub pushed_constants : Op → List PoolConstant
pushed_constants (op.PushInt n) = if is_short n then [] else Integer n ∷ []
pushed_constants (op.PushText units) = string_constants units
pushed_constants _ = []

-- a CONSTANT_Fieldref with its parts before it (JVMS 4.4.2)
abbrev pub field_constants : MemberRef → List PoolConstant
field_constants reference = with_parts reference (fieldref reference)

-- a CONSTANT_Methodref or CONSTANT_InterfaceMethodref with its parts before it (JVMS 4.4.2)
abbrev pub method_constants : MemberRef → List PoolConstant
method_constants reference = with_parts reference (methodref reference)

-- the constants that an instruction names (JVMS 4.4, 6.5)
abbrev pub op_constants : Op → List PoolConstant
op_constants (op.PushLong n) = if is_lconst n then [] else long_constants n
op_constants (op.GetStatic reference) = field_constants reference
op_constants (op.PutStatic reference) = field_constants reference
op_constants (op.GetField reference) = field_constants reference
op_constants (op.PutField reference) = field_constants reference
op_constants (op.InvokeVirtual reference) = method_constants reference
op_constants (op.InvokeSpecial reference) = method_constants reference
op_constants (op.InvokeStatic reference) = method_constants reference
op_constants (op.InvokeInterface reference) = method_constants reference
op_constants (op.New name) = class_constants name
op_constants (op.ANewArray ty) = class_constants (type_name ty)
op_constants (op.CheckCast ty) = class_constants (type_name ty)
op_constants (op.InstanceOf ty) = class_constants (type_name ty)
op_constants (op.MultiNewArray ty dimensions) = class_constants (type_name ty)
op_constants o = pushed_constants o
