-- Numbers (JVMS 2.3.1, 2.11.3, 2.11.4, 6.5). They wrap at 32 and 64 bits.
use Rattle.std.specs.Prelude.{ℕ, ◌^◌, ◌/◌, ℤ, pos, negsuc, Bool, not, Option, if◌then◌else◌, int_lt}
use Rattle.std.specs.Int.{Width, w32, w64, cast_signed, cast_unsigned, int_bit_and, int_bit_or, int_bit_xor}
use Rattle.std.specs.Int.{int_rem_euclid, int_shl, int_shr}
use Rattle.std.specs.Int.RustNames.{unsigned_abs}
use Rattle.std.specs.Ordering.{int_eq}
use Rattle.class_model.specs.declared.op.Cond.{Cond}
use Rattle.class_model.specs.declared.op.Cond.TheVariants as cond
use Rattle.class_model.specs.declared.op.LogicOp.{LogicOp}
use Rattle.class_model.specs.declared.op.LogicOp.TheVariants as logic
use Rattle.class_model.specs.declared.op.Num.{Num}
use Rattle.class_model.specs.declared.op.Num.TheVariants as num
use Rattle.class_model.specs.declared.op.ShiftOp.{ShiftOp}
use Rattle.class_model.specs.declared.op.ShiftOp.TheVariants as shift
use Rattle.jvm_model.specs.Value.{Value, Int, Long, as_int, as_long}

-- how many bits a number has (JVMS 2.3.1)
abbrev pub width_of : Num → Width
width_of num.Int = w32
width_of num.Long = w64

-- the number of a value of the type
abbrev pub as_number : Num → Value → Option ℤ
as_number num.Int = as_int
as_number num.Long = as_long

-- a number as a value
abbrev pub number : Num → ℤ → Value
number num.Int = Int
number num.Long = Long

-- how far a shift goes: the low 5 bits, or the low 6 (JVMS 6.5.ishl, 6.5.lshl)
abbrev pub distance : Num → ℤ → ℕ
distance num.Int z = unsigned_abs (int_rem_euclid z (pos 32))
distance num.Long z = unsigned_abs (int_rem_euclid z (pos 64))

-- the bits of a number, moved to the right with zeros before them (JVMS 6.5.iushr, 6.5.lushr)
abbrev pub shifted_logically : Width → ℤ → ℕ → ℤ
shifted_logically w z k = cast_signed w (cast_unsigned w z / 2 ^ k)

-- a number, shifted (JVMS 6.5.ishl, 6.5.ishr, 6.5.iushr, and those of long)
abbrev pub shifted : ShiftOp → Num → ℤ → ℤ → ℤ
shifted shift.Shl n z k = int_shl (width_of n) z (distance n k)
shifted shift.Shr n z k = int_shr z (distance n k)
shifted shift.Ushr n z k = shifted_logically (width_of n) z (distance n k)

-- bit by bit (JVMS 6.5.iand, 6.5.ior, 6.5.ixor, and those of long)
abbrev pub joined : LogicOp → Num → ℤ → ℤ → ℤ
joined logic.And n = int_bit_and (width_of n)
joined logic.Or n = int_bit_or (width_of n)
joined logic.Xor n = int_bit_xor (width_of n)

-- 1, 0 or -1 (JVMS 6.5.lcmp)
abbrev pub compared : ℤ → ℤ → ℤ
compared a b = if int_lt b a then pos 1 else if int_eq a b then pos 0 else negsuc 0

-- the condition holds of two ints (JVMS 6.5.if_cond, 6.5.if_icmp_cond)
abbrev pub holds : Cond → ℤ → ℤ → Bool
holds cond.Eq a b = int_eq a b
holds cond.Ne a b = not (int_eq a b)
holds cond.Lt a b = int_lt a b
holds cond.Ge a b = not (int_lt a b)
holds cond.Gt a b = int_lt b a
holds cond.Le a b = not (int_lt b a)
