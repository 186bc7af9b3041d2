-- The opcodes by families (JVMS 6.5 and 7): what each stands for, and which are left out.
use Rattle.std.specs.Prelude.{ℕ, ◌-◌, pos, ◌-ℤ◌, Bool, true, false, ◌||◌, Option, Some, None, option_map, ◌==◌, nat_lt}
use Rattle.std.specs.Prelude.{nat_le, if◌then◌else◌}
use Rattle.jv_base.specs.declared.types.Base.{Base}
use Rattle.jv_base.specs.declared.types.Base.TheVariants as base
use Rattle.jv_base.specs.declared.types.FieldType.{FieldType}
use Rattle.class_model.specs.declared.op.MemberRef.{MemberRef}
use Rattle.class_model.specs.declared.op.Op.{Op}
use Rattle.class_model.specs.declared.op.Op.TheVariants as op
use Rattle.class_model.specs.declared.op.Kind.{Kind}
use Rattle.class_model.specs.declared.op.Kind.TheVariants as kind
use Rattle.class_model.specs.declared.op.Num.TheVariants as num
use Rattle.class_model.specs.declared.op.Elem.{Elem}
use Rattle.class_model.specs.declared.op.Elem.TheVariants as elem
use Rattle.class_model.specs.declared.op.ArithOp.TheVariants as arith
use Rattle.class_model.specs.declared.op.ShiftOp.TheVariants as shift
use Rattle.class_model.specs.declared.op.LogicOp.TheVariants as logic
use Rattle.class_model.specs.declared.op.ConvOp.TheVariants as conv
use Rattle.class_model.specs.declared.op.Cond.{Cond}
use Rattle.class_model.specs.declared.op.Cond.TheVariants as cond
use Rattle.class_model.specs.Between.{between}
use Rattle.class_model.specs.OpcodeNames.{NOP, ACONST_NULL, ICONST_M1, ICONST_0, ICONST_5, LCONST_0, LCONST_1, FCONST_0}
use Rattle.class_model.specs.OpcodeNames.{DCONST_1, ILOAD, FLOAD, DLOAD, ALOAD, ILOAD_0, FLOAD_0, DLOAD_3, ALOAD_3}
use Rattle.class_model.specs.OpcodeNames.{IALOAD, FALOAD, DALOAD, SALOAD, ISTORE, FSTORE, DSTORE, ASTORE, ISTORE_0}
use Rattle.class_model.specs.OpcodeNames.{FSTORE_0, DSTORE_3, ASTORE_3, IASTORE, FASTORE, DASTORE, SASTORE, POP, POP2}
use Rattle.class_model.specs.OpcodeNames.{DUP, DUP_X1, DUP_X2, DUP2, DUP2_X1, DUP2_X2, SWAP, IADD, LADD, FADD, DADD}
use Rattle.class_model.specs.OpcodeNames.{ISUB, LSUB, FSUB, DSUB, IMUL, LMUL, FMUL, DMUL, IDIV, LDIV, FDIV, DDIV}
use Rattle.class_model.specs.OpcodeNames.{IREM, LREM, FREM, DREM, INEG, LNEG, FNEG, DNEG, ISHL, LSHL, ISHR, LSHR}
use Rattle.class_model.specs.OpcodeNames.{IUSHR, LUSHR, IAND, LAND, IOR, LOR, IXOR, LXOR, I2L, I2F, I2D, L2I, L2F}
use Rattle.class_model.specs.OpcodeNames.{D2F, I2B, I2C, I2S, LCMP, FCMPL, DCMPG, IFEQ, IFLE, IF_ICMPEQ, IF_ICMPLE}
use Rattle.class_model.specs.OpcodeNames.{IF_ACMPEQ, IF_ACMPNE, GOTO, IRETURN, LRETURN, FRETURN, DRETURN, ARETURN}
use Rattle.class_model.specs.OpcodeNames.{RETURN, GETSTATIC, PUTSTATIC, GETFIELD, PUTFIELD, INVOKEVIRTUAL}
use Rattle.class_model.specs.OpcodeNames.{INVOKESPECIAL, INVOKESTATIC, ANEWARRAY, ARRAYLENGTH, ATHROW, CHECKCAST}
use Rattle.class_model.specs.OpcodeNames.{INSTANCEOF, MONITORENTER, MONITOREXIT, IFNULL, IFNONNULL}

-- ---- the order in which the standard goes through types and comparisons

-- int, long, float, double, reference; float and double are left out (JVMS 6.5)
abbrev pub kind_of : ℕ → Option Kind
kind_of n = if n == 0 then Some kind.Int else if n == 1 then Some kind.Long else if n == 4 then Some kind.Ref else None

-- int, long, float, double, reference, byte or boolean, char, short (JVMS 6.5)
abbrev pub elem_of : ℕ → Option Elem
elem_of n =
    if n == 0 then Some elem.Int
    else if n == 1 then Some elem.Long
    else if n == 4 then Some elem.Ref
    else if n == 5 then Some elem.Byte
    else if n == 6 then Some elem.Char
    else if n == 7 then Some elem.Short
    else None

-- eq, ne, lt, ge, gt, le (JVMS 6.5)
abbrev pub cond_of : ℕ → Option Cond
cond_of n =
    if n == 0 then Some cond.Eq
    else if n == 1 then Some cond.Ne
    else if n == 2 then Some cond.Lt
    else if n == 3 then Some cond.Ge
    else if n == 4 then Some cond.Gt
    else if n == 5 then Some cond.Le
    else None

-- ---- instructions without operands

-- nop, aconst_null, iconst_<i>, lconst_<l>: 00 to 0A
abbrev pub constant_op : ℕ → Option Op
constant_op opcode =
    if opcode == NOP then Some op.Nop
    else if opcode == ACONST_NULL then Some op.PushNull
    else if between ICONST_M1 ICONST_5 opcode then Some (op.PushInt (pos opcode -ℤ pos ICONST_0))
    else if between LCONST_0 LCONST_1 opcode then Some (op.PushLong (pos (opcode - LCONST_0)))
    else None

-- <type>load_<n> and <type>store_<n>, four slots for each type: the n-th of them
abbrev pub slot_op : (Kind → ℕ → Op) → ℕ → Option Op
slot_op make n =
    if nat_lt n 4 then Some (make kind.Int n)
    else if nat_lt n 8 then Some (make kind.Long (n - 4))
    else if between 16 19 n then Some (make kind.Ref (n - 16))
    else None

-- pop, pop2, dup, dup_x1, dup_x2, dup2, dup2_x1, dup2_x2, swap: 57 to 5F
abbrev pub stack_op : ℕ → Option Op
stack_op opcode =
    if opcode == POP then Some op.Pop
    else if opcode == POP2 then Some op.Pop2
    else if opcode == DUP then Some op.Dup
    else if opcode == DUP_X1 then Some op.DupX1
    else if opcode == DUP_X2 then Some op.DupX2
    else if opcode == DUP2 then Some op.Dup2
    else if opcode == DUP2_X1 then Some op.Dup2X1
    else if opcode == DUP2_X2 then Some op.Dup2X2
    else if opcode == SWAP then Some op.Swap
    else None

-- add, sub, mul, div, rem and neg of int and long: 60 to 77
abbrev pub arithmetic_op : ℕ → Option Op
arithmetic_op opcode =
    if opcode == IADD then Some (op.Arith arith.Add num.Int)
    else if opcode == LADD then Some (op.Arith arith.Add num.Long)
    else if opcode == ISUB then Some (op.Arith arith.Sub num.Int)
    else if opcode == LSUB then Some (op.Arith arith.Sub num.Long)
    else if opcode == IMUL then Some (op.Arith arith.Mul num.Int)
    else if opcode == LMUL then Some (op.Arith arith.Mul num.Long)
    else if opcode == IDIV then Some (op.Arith arith.Div num.Int)
    else if opcode == LDIV then Some (op.Arith arith.Div num.Long)
    else if opcode == IREM then Some (op.Arith arith.Rem num.Int)
    else if opcode == LREM then Some (op.Arith arith.Rem num.Long)
    else if opcode == INEG then Some (op.Neg num.Int)
    else if opcode == LNEG then Some (op.Neg num.Long)
    else None

-- shl, shr, ushr, and, or, xor of int and long: 78 to 83
abbrev pub bits_op : ℕ → Option Op
bits_op opcode =
    if opcode == ISHL then Some (op.Shift shift.Shl num.Int)
    else if opcode == LSHL then Some (op.Shift shift.Shl num.Long)
    else if opcode == ISHR then Some (op.Shift shift.Shr num.Int)
    else if opcode == LSHR then Some (op.Shift shift.Shr num.Long)
    else if opcode == IUSHR then Some (op.Shift shift.Ushr num.Int)
    else if opcode == LUSHR then Some (op.Shift shift.Ushr num.Long)
    else if opcode == IAND then Some (op.Logic logic.And num.Int)
    else if opcode == LAND then Some (op.Logic logic.And num.Long)
    else if opcode == IOR then Some (op.Logic logic.Or num.Int)
    else if opcode == LOR then Some (op.Logic logic.Or num.Long)
    else if opcode == IXOR then Some (op.Logic logic.Xor num.Int)
    else if opcode == LXOR then Some (op.Logic logic.Xor num.Long)
    else None

-- i2l, l2i, i2b, i2c, i2s, lcmp: 85 to 94
abbrev pub conversion_op : ℕ → Option Op
conversion_op opcode =
    if opcode == I2L then Some (op.Conv conv.I2l)
    else if opcode == L2I then Some (op.Conv conv.L2i)
    else if opcode == I2B then Some (op.Conv conv.I2b)
    else if opcode == I2C then Some (op.Conv conv.I2c)
    else if opcode == I2S then Some (op.Conv conv.I2s)
    else if opcode == LCMP then Some op.LCmp
    else None

-- ireturn, lreturn, areturn, return, arraylength, athrow: AC to BF
abbrev pub ending_op : ℕ → Option Op
ending_op opcode =
    if opcode == IRETURN then Some (op.Return (Some kind.Int))
    else if opcode == LRETURN then Some (op.Return (Some kind.Long))
    else if opcode == ARETURN then Some (op.Return (Some kind.Ref))
    else if opcode == RETURN then Some (op.Return None)
    else if opcode == ARRAYLENGTH then Some op.ArrayLength
    else if opcode == ATHROW then Some op.Throw
    else None

-- an instruction that is its opcode alone
abbrev pub plain_op : ℕ → Option Op
plain_op opcode =
    if nat_le opcode LCONST_1 then constant_op opcode
    else if between ILOAD_0 ALOAD_3 opcode then slot_op op.Load (opcode - ILOAD_0)
    else if between IALOAD SALOAD opcode then option_map op.ALoad (elem_of (opcode - IALOAD))
    else if between ISTORE_0 ASTORE_3 opcode then slot_op op.Store (opcode - ISTORE_0)
    else if between IASTORE SASTORE opcode then option_map op.AStore (elem_of (opcode - IASTORE))
    else if between POP SWAP opcode then stack_op opcode
    else if between IADD DNEG opcode then arithmetic_op opcode
    else if between ISHL LXOR opcode then bits_op opcode
    else if between I2L LCMP opcode then conversion_op opcode
    else ending_op opcode

-- ---- instructions with operands

-- iload, lload, aload, istore, lstore, astore, of a slot
abbrev pub local_op : ℕ → Option (ℕ → Op)
local_op opcode =
    if between ILOAD ALOAD opcode then option_map (λ k slot. op.Load k slot) (kind_of (opcode - ILOAD))
    else if between ISTORE ASTORE opcode then option_map (λ k slot. op.Store k slot) (kind_of (opcode - ISTORE))
    else None

-- if<cond>, if_icmp<cond>, if_acmp<cond>, goto, ifnull, ifnonnull, to a target
abbrev pub branch_op : ℕ → Option (ℕ → Op)
branch_op opcode =
    if between IFEQ IFLE opcode then option_map (λ c to. op.IfZero c to) (cond_of (opcode - IFEQ))
    else if between IF_ICMPEQ IF_ICMPLE opcode then option_map (λ c to. op.IfCmp c to) (cond_of (opcode - IF_ICMPEQ))
    else if opcode == IF_ACMPEQ then Some (λ to. op.IfRef true to)
    else if opcode == IF_ACMPNE then Some (λ to. op.IfRef false to)
    else if opcode == GOTO then Some op.Goto
    else if opcode == IFNULL then Some (λ to. op.IfNull true to)
    else if opcode == IFNONNULL then Some (λ to. op.IfNull false to)
    else None

-- getstatic, putstatic, getfield, putfield
abbrev pub field_op : ℕ → Option (MemberRef → Op)
field_op opcode =
    if opcode == GETSTATIC then Some op.GetStatic
    else if opcode == PUTSTATIC then Some op.PutStatic
    else if opcode == GETFIELD then Some op.GetField
    else if opcode == PUTFIELD then Some op.PutField
    else None

-- invokevirtual, invokespecial, invokestatic
abbrev pub method_op : ℕ → Option (MemberRef → Op)
method_op opcode =
    if opcode == INVOKEVIRTUAL then Some op.InvokeVirtual
    else if opcode == INVOKESPECIAL then Some op.InvokeSpecial
    else if opcode == INVOKESTATIC then Some op.InvokeStatic
    else None

-- invokespecial and invokestatic may name a method of an interface (JVMS 6.5)
abbrev pub takes_interface_method : ℕ → Bool
takes_interface_method opcode = opcode == INVOKESPECIAL || opcode == INVOKESTATIC

-- anewarray, checkcast, instanceof
abbrev pub type_op : ℕ → Option (FieldType → Op)
type_op opcode =
    if opcode == ANEWARRAY then Some op.ANewArray
    else if opcode == CHECKCAST then Some op.CheckCast
    else if opcode == INSTANCEOF then Some op.InstanceOf
    else None

-- the element type that the operand of newarray tells (JVMS 6.5, table 6.5.newarray-A)
abbrev pub array_type_of : ℕ → Option Base
array_type_of code =
    if code == 4 then Some base.Boolean
    else if code == 5 then Some base.Char
    else if code == 8 then Some base.Byte
    else if code == 9 then Some base.Short
    else if code == 10 then Some base.Int
    else if code == 11 then Some base.Long
    else None

-- ---- what is left out (the project's own: no value of an instruction has it)

-- a float or a double in the operand of newarray
abbrev pub is_left_out_array_type : ℕ → Bool
is_left_out_array_type code = code == 6 || code == 7

-- fload, dload, fstore, dstore, of a slot
abbrev pub is_left_out_local : ℕ → Bool
is_left_out_local opcode = between FLOAD DLOAD opcode || between FSTORE DSTORE opcode

-- fconst_<f>, dconst_<d>, fload, dload, fstore, dstore, fload_<n>, dload_<n>, faload, daload, fstore_<n>, dstore_<n>,
-- fastore, dastore, fadd, dadd, fsub, dsub, fmul, dmul, fdiv, ddiv, frem, drem, fneg, dneg, i2f, i2d,
-- l2f, l2d, f2i, f2l, f2d, d2i, d2l, d2f, fcmpl, fcmpg, dcmpl, dcmpg, freturn, dreturn
abbrev pub is_left_out_number : ℕ → Bool
is_left_out_number opcode =
    between FCONST_0 DCONST_1 opcode || is_left_out_local opcode
    || between FLOAD_0 DLOAD_3 opcode || between FALOAD DALOAD opcode
    || between FSTORE_0 DSTORE_3 opcode || between FASTORE DASTORE opcode
    || between FADD DADD opcode || between FSUB DSUB opcode || between FMUL DMUL opcode
    || between FDIV DDIV opcode || between FREM DREM opcode || between FNEG DNEG opcode
    || between I2F I2D opcode || between L2F D2F opcode
    || between FCMPL DCMPG opcode || between FRETURN DRETURN opcode

-- the instruction of this opcode is left out: on float or double, monitorenter or monitorexit
abbrev pub is_left_out_opcode : ℕ → Bool
is_left_out_opcode opcode = is_left_out_number opcode || between MONITORENTER MONITOREXIT opcode
