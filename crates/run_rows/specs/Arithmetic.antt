-- Rows of runs: arithmetic (the project's own: what HotSpot does).
use Rattle.std.specs.Prelude.{◌≡◌, ℤ, pos, negsuc, List, [], ◌∷◌, Some, None, codes}
use Rattle.class_model.specs.declared.class.Class.{Class}
use Rattle.class_model.specs.declared.op.ArithOp.TheVariants as arith
use Rattle.class_model.specs.declared.op.ConvOp.TheVariants as conv
use Rattle.class_model.specs.declared.op.Kind.TheVariants as kind
use Rattle.class_model.specs.declared.op.LogicOp.TheVariants as logic
use Rattle.class_model.specs.declared.op.Num.TheVariants as num
use Rattle.class_model.specs.declared.op.Op.TheVariants as op
use Rattle.class_model.specs.declared.op.ShiftOp.TheVariants as shift
use Rattle.class_pool.specs.rows.LinkRows.{object, plain_class}
use Rattle.class_run.specs.Ended.{ended_after}
use Rattle.class_run.specs.Examples.{key}
use Rattle.class_run.specs.declared.ended.Arg.TheVariants as arg
use Rattle.class_run.specs.declared.ended.Back.TheVariants as back
use Rattle.class_run.specs.declared.ended.End.TheVariants as end
use Rattle.link_check.specs.rows.ProfileRows.{system_out}
use Rattle.run_rows.specs.Rows.{ends, lines, long, of_stream, plain_constructor, with_code}
use Rattle.set_view.specs.Examples.{int}

-- int arithmetic
abbrev pub int_arithmetic_set : List Class
int_arithmetic_set = plain_class 0x0021 (codes "t/T") object [] [] (plain_constructor 0x0001 object ∷ with_code 0x0008
    (codes "f") (int ∷ int ∷ []) (Some int) (op.GetStatic system_out ∷ op.Load kind.Int 0 ∷ op.Load kind.Int 1 ∷
    op.Arith arith.Add num.Int ∷ op.InvokeVirtual (of_stream (codes "println") (codes "(I)V")) ∷ op.GetStatic system_out
    ∷ op.Load kind.Int 0 ∷ op.Load kind.Int 1 ∷ op.Arith arith.Sub num.Int ∷ op.InvokeVirtual (of_stream (codes
    "println") (codes "(I)V")) ∷ op.GetStatic system_out ∷ op.Load kind.Int 0 ∷ op.Load kind.Int 1 ∷ op.Arith arith.Mul
    num.Int ∷ op.InvokeVirtual (of_stream (codes "println") (codes "(I)V")) ∷ op.GetStatic system_out ∷ op.Load kind.Int
    0 ∷ op.Neg num.Int ∷ op.InvokeVirtual (of_stream (codes "println") (codes "(I)V")) ∷ op.GetStatic system_out ∷
    op.Load kind.Int 0 ∷ op.Load kind.Int 1 ∷ op.Logic logic.And num.Int ∷ op.InvokeVirtual (of_stream (codes "println")
    (codes "(I)V")) ∷ op.GetStatic system_out ∷ op.Load kind.Int 0 ∷ op.Load kind.Int 1 ∷ op.Logic logic.Or num.Int ∷
    op.InvokeVirtual (of_stream (codes "println") (codes "(I)V")) ∷ op.GetStatic system_out ∷ op.Load kind.Int 0 ∷
    op.Load kind.Int 1 ∷ op.Logic logic.Xor num.Int ∷ op.InvokeVirtual (of_stream (codes "println") (codes "(I)V")) ∷
    op.GetStatic system_out ∷ op.Load kind.Int 0 ∷ op.PushInt (negsuc 0) ∷ op.Logic logic.Xor num.Int ∷ op.InvokeVirtual
    (of_stream (codes "println") (codes "(I)V")) ∷ op.GetStatic system_out ∷ op.Load kind.Int 0 ∷ op.Load kind.Int 1 ∷
    op.Arith arith.Div num.Int ∷ op.InvokeVirtual (of_stream (codes "println") (codes "(I)V")) ∷ op.GetStatic system_out
    ∷ op.Load kind.Int 0 ∷ op.Load kind.Int 1 ∷ op.Arith arith.Rem num.Int ∷ op.InvokeVirtual (of_stream (codes
    "println") (codes "(I)V")) ∷ op.Load kind.Int 0 ∷ op.Load kind.Int 1 ∷ op.Arith arith.Rem num.Int ∷ op.Return (Some
    kind.Int) ∷ []) [] ∷ []) ∷ []

abbrev pub IntArithmeticRow : Type 0
IntArithmeticRow = ended_after int_arithmetic_set (key (codes "t/T") (codes "f") (codes "(II)I")) (arg.Int (pos 7) ∷
    arg.Int (pos 3) ∷ []) 55 ≡ ends (lines (codes "10" ∷ codes "4" ∷ codes "21" ∷ codes "-7" ∷ codes "3" ∷ codes "7" ∷
    codes "4" ∷ codes "-8" ∷ codes "2" ∷ codes "1" ∷ [])) (end.Returned (back.Int (pos 1)))

-- of a number below zero
abbrev pub IntArithmeticBelowZeroRow : Type 0
IntArithmeticBelowZeroRow = ended_after int_arithmetic_set (key (codes "t/T") (codes "f") (codes "(II)I"))
    (arg.Int (negsuc 6) ∷ arg.Int (pos 3) ∷ []) 55
    ≡ ends (lines (codes "-4" ∷ codes "-10" ∷ codes "-21" ∷ codes "7" ∷ codes "1" ∷ codes "-5" ∷ codes "-6" ∷ codes "6"
    ∷ codes "-2" ∷ codes "-1" ∷ [])) (end.Returned (back.Int (negsuc 0)))

-- long arithmetic
abbrev pub long_arithmetic_set : List Class
long_arithmetic_set = plain_class 0x0021 (codes "t/T") object [] [] (plain_constructor 0x0001 object ∷ with_code 0x0008
    (codes "f") (long ∷ long ∷ []) (Some long) (op.GetStatic system_out ∷ op.Load kind.Long 0 ∷ op.Load kind.Long 2 ∷
    op.Arith arith.Add num.Long ∷ op.InvokeVirtual (of_stream (codes "println") (codes "(J)V")) ∷ op.GetStatic
    system_out ∷ op.Load kind.Long 0 ∷ op.Load kind.Long 2 ∷ op.Arith arith.Sub num.Long ∷ op.InvokeVirtual (of_stream
    (codes "println") (codes "(J)V")) ∷ op.GetStatic system_out ∷ op.Load kind.Long 0 ∷ op.Load kind.Long 2 ∷ op.Arith
    arith.Mul num.Long ∷ op.InvokeVirtual (of_stream (codes "println") (codes "(J)V")) ∷ op.GetStatic system_out ∷
    op.Load kind.Long 0 ∷ op.Neg num.Long ∷ op.InvokeVirtual (of_stream (codes "println") (codes "(J)V")) ∷ op.GetStatic
    system_out ∷ op.Load kind.Long 0 ∷ op.Load kind.Long 2 ∷ op.Logic logic.And num.Long ∷ op.InvokeVirtual (of_stream
    (codes "println") (codes "(J)V")) ∷ op.GetStatic system_out ∷ op.Load kind.Long 0 ∷ op.Load kind.Long 2 ∷ op.Logic
    logic.Or num.Long ∷ op.InvokeVirtual (of_stream (codes "println") (codes "(J)V")) ∷ op.GetStatic system_out ∷
    op.Load kind.Long 0 ∷ op.Load kind.Long 2 ∷ op.Logic logic.Xor num.Long ∷ op.InvokeVirtual (of_stream (codes
    "println") (codes "(J)V")) ∷ op.GetStatic system_out ∷ op.Load kind.Long 0 ∷ op.Load kind.Long 2 ∷ op.Arith
    arith.Div num.Long ∷ op.InvokeVirtual (of_stream (codes "println") (codes "(J)V")) ∷ op.GetStatic system_out ∷
    op.Load kind.Long 0 ∷ op.Load kind.Long 2 ∷ op.Arith arith.Rem num.Long ∷ op.InvokeVirtual (of_stream (codes
    "println") (codes "(J)V")) ∷ op.Load kind.Long 0 ∷ op.Load kind.Long 2 ∷ op.Arith arith.Div num.Long ∷ op.Return
    (Some kind.Long) ∷ []) [] ∷ []) ∷ []

abbrev pub LongArithmeticRow : Type 0
LongArithmeticRow = ended_after long_arithmetic_set (key (codes "t/T") (codes "f") (codes "(JJ)J")) (arg.Long (negsuc 6)
    ∷ arg.Long (pos 3) ∷ []) 50 ≡ ends (lines (codes "-4" ∷ codes "-10" ∷ codes "-21" ∷ codes "7" ∷ codes "1" ∷ codes
    "-5" ∷ codes "-6" ∷ codes "-2" ∷ codes "-1" ∷ [])) (end.Returned (back.Long (negsuc 1)))

-- int shifts
abbrev pub int_shifts_set : List Class
int_shifts_set = plain_class 0x0021 (codes "t/T") object [] [] (plain_constructor 0x0001 object ∷ with_code 0x0008
    (codes "f") (int ∷ int ∷ []) None (op.GetStatic system_out ∷ op.Load kind.Int 0 ∷ op.Load kind.Int 1 ∷ op.Shift
    shift.Shl num.Int ∷ op.InvokeVirtual (of_stream (codes "println") (codes "(I)V")) ∷ op.GetStatic system_out ∷
    op.Load kind.Int 0 ∷ op.Load kind.Int 1 ∷ op.Shift shift.Shr num.Int ∷ op.InvokeVirtual (of_stream (codes "println")
    (codes "(I)V")) ∷ op.GetStatic system_out ∷ op.Load kind.Int 0 ∷ op.Load kind.Int 1 ∷ op.Shift shift.Ushr num.Int ∷
    op.InvokeVirtual (of_stream (codes "println") (codes "(I)V")) ∷ op.Return None ∷ []) [] ∷ []) ∷ []

abbrev pub IntShiftsRow : Type 0
IntShiftsRow = ended_after int_shifts_set (key (codes "t/T") (codes "f") (codes "(II)V")) (arg.Int (pos 1) ∷ arg.Int
    (pos 31) ∷ []) 18 ≡ ends (lines (codes "-2147483648" ∷ codes "0" ∷ codes "0" ∷ [])) (end.Returned back.Nothing)

-- by a distance of 1 after its low bits are taken, of a number below zero
abbrev pub int_shifts_by_one : ℤ → Type 0
int_shifts_by_one distance = ended_after int_shifts_set (key (codes "t/T") (codes "f") (codes "(II)V"))
    (arg.Int (negsuc 19) ∷ arg.Int distance ∷ []) 18
    ≡ ends (lines (codes "-40" ∷ codes "-10" ∷ codes "2147483638" ∷ [])) (end.Returned back.Nothing)

-- by 33, and by -31
abbrev pub IntShiftsMaskedRow : Type 0
IntShiftsMaskedRow = int_shifts_by_one (pos 33) × int_shifts_by_one (negsuc 30)

-- long shifts
abbrev pub long_shifts_set : List Class
long_shifts_set = plain_class 0x0021 (codes "t/T") object [] [] (plain_constructor 0x0001 object ∷ with_code 0x0008
    (codes "f") (long ∷ int ∷ []) None (op.GetStatic system_out ∷ op.Load kind.Long 0 ∷ op.Load kind.Int 2 ∷ op.Shift
    shift.Shl num.Long ∷ op.InvokeVirtual (of_stream (codes "println") (codes "(J)V")) ∷ op.GetStatic system_out ∷
    op.Load kind.Long 0 ∷ op.Load kind.Int 2 ∷ op.Shift shift.Shr num.Long ∷ op.InvokeVirtual (of_stream (codes
    "println") (codes "(J)V")) ∷ op.GetStatic system_out ∷ op.Load kind.Long 0 ∷ op.Load kind.Int 2 ∷ op.Shift
    shift.Ushr num.Long ∷ op.InvokeVirtual (of_stream (codes "println") (codes "(J)V")) ∷ op.Return None ∷ []) [] ∷ [])
    ∷ []

abbrev pub LongShiftsRow : Type 0
LongShiftsRow = ended_after long_shifts_set (key (codes "t/T") (codes "f") (codes "(JI)V")) (arg.Long (pos 1) ∷ arg.Int
    (pos 63) ∷ []) 18 ≡ ends (lines (codes "-9223372036854775808" ∷ codes "0" ∷ codes "0" ∷ [])) (end.Returned
    back.Nothing)

-- by a distance of 1 after its low bits are taken, of a number below zero
abbrev pub long_shifts_by_one : ℤ → Type 0
long_shifts_by_one distance = ended_after long_shifts_set (key (codes "t/T") (codes "f") (codes "(JI)V"))
    (arg.Long (negsuc 19) ∷ arg.Int distance ∷ []) 18
    ≡ ends (lines (codes "-40" ∷ codes "-10" ∷ codes "9223372036854775798" ∷ [])) (end.Returned back.Nothing)

-- by 65, and by -63
abbrev pub LongShiftsMaskedRow : Type 0
LongShiftsMaskedRow = long_shifts_by_one (pos 65) × long_shifts_by_one (negsuc 62)

-- nop
abbrev pub nop_set : List Class
nop_set = plain_class 0x0021 (codes "t/T") object [] [] (with_code 0x0009 (codes "f") [] (Some int) (op.Nop ∷
    op.PushInt (pos 3) ∷ op.Nop ∷ op.Nop ∷ op.Return (Some kind.Int) ∷ []) [] ∷ []) ∷ []

abbrev pub NopRow : Type 0
NopRow = ended_after nop_set (key (codes "t/T") (codes "f") (codes "()I")) [] 7 ≡ ends [] (end.Returned (back.Int (pos
    3)))

-- i2c and i2b of one number by way of long
abbrev pub i2c_and_i2b_set : List Class
i2c_and_i2b_set = plain_class 0x0021 (codes "t/T") object [] [] (with_code 0x0009 (codes "f") (long ∷ []) (Some int)
    (op.Load kind.Long 0 ∷ op.Conv conv.L2i ∷ op.Conv conv.I2c ∷ op.Conv conv.I2s ∷ op.Conv conv.I2b ∷ op.Conv conv.I2l
    ∷ op.Conv conv.L2i ∷ op.Return (Some kind.Int) ∷ []) [] ∷ []) ∷ []

abbrev pub I2cAndI2bRow : Type 0
I2cAndI2bRow = ended_after i2c_and_i2b_set (key (codes "t/T") (codes "f") (codes "(J)I")) (arg.Long (pos 4295033082) ∷
    []) 10 ≡ ends [] (end.Returned (back.Int (negsuc 5)))

-- the rows
abbrev pub ArithmeticRows : Type 0
ArithmeticRows = IntArithmeticRow × IntArithmeticBelowZeroRow × LongArithmeticRow × IntShiftsRow × IntShiftsMaskedRow
    × LongShiftsRow × LongShiftsMaskedRow × NopRow × I2cAndI2bRow
