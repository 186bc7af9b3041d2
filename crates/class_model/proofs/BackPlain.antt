-- Instructions that are an opcode alone are read back.
use Rattle.std.proofs.Common.{◌≡◌, ℕ, ◌+◌, ◌<◌, Option, Some, None, Result, Ok, refl, ap, arith}
use Rattle.std.specs.Prelude.{ℤ, List, is_some}
use Rattle.format_reading.specs.declared.fault.FormatKind.{FormatKind}
use Rattle.format_reading.specs.declared.fault.FormatKind.TheVariants as bad
use Rattle.class_model.specs.declared.pool.Entry.{Entry}
use Rattle.class_model.specs.declared.op.Op.{Op}
use Rattle.class_model.specs.declared.op.Op.TheVariants as op
use Rattle.class_model.specs.declared.op.Kind.{Kind}
use Rattle.class_model.specs.declared.op.Kind.TheVariants as kind
use Rattle.class_model.specs.declared.op.Num.{Num}
use Rattle.class_model.specs.declared.op.Num.TheVariants as num
use Rattle.class_model.specs.declared.op.Elem.{Elem}
use Rattle.class_model.specs.declared.op.Elem.TheVariants as elem
use Rattle.class_model.specs.declared.op.ArithOp.{ArithOp}
use Rattle.class_model.specs.declared.op.ArithOp.TheVariants as arith_op
use Rattle.class_model.specs.declared.op.ShiftOp.{ShiftOp}
use Rattle.class_model.specs.declared.op.ShiftOp.TheVariants as shift
use Rattle.class_model.specs.declared.op.LogicOp.{LogicOp}
use Rattle.class_model.specs.declared.op.LogicOp.TheVariants as logic
use Rattle.class_model.specs.declared.op.ConvOp.{ConvOp}
use Rattle.class_model.specs.declared.op.ConvOp.TheVariants as conv
use Rattle.class_model.specs.Lookups.{due}
use Rattle.class_model.specs.Opcodes.{plain_op}
use Rattle.class_model.specs.InstructionStructure.{Info, Plain}
use Rattle.class_model.specs.InstructionMeaning.{op_of}
use Rattle.class_model.specs.CanonicalCode.{num_number, elem_number, arith_opcode, shift_opcode, logic_opcode}
use Rattle.class_model.specs.CanonicalCode.{conv_opcode, return_opcode}
use Rattle.class_model.proofs.BackInfos.{IsRead, read_plain}

-- the bytes at an offset of a code are read, and mean the instruction, where aim finds the numbers of targets
pub record IsBack (aim : ℤ → Result ℕ FormatKind) (entries : List Entry) (at : ℕ) (info : Info) (o : Op) : Type 0 where
  pub read : IsRead entries at info
  pub meant : op_of aim entries at info ≡ Ok o

-- the opcode alone means the instruction
abbrev pub IsPlain : ℕ → Op → Type 0
IsPlain opcode o = (opcode < 256) × (plain_op opcode ≡ Some o)

pub plain_back : (aim : ℤ → Result ℕ FormatKind) (entries : List Entry) (at opcode : ℕ) (o : Op) → IsPlain opcode o
    → IsBack aim entries at (Plain opcode) o
unfolding op_of
plain_back aim entries at opcode o h = record {
  read = read_plain entries at opcode h.0 (ap is_some h.1);
  meant = ap
      (due bad.BadOperand) h.1;
}

pub is_load : (e : Elem) → IsPlain (0x2E + elem_number e) (op.ALoad e)
is_load elem.Int = (omega arith, refl)
is_load elem.Long = (omega arith, refl)
is_load elem.Ref = (omega arith, refl)
is_load elem.Byte = (omega arith, refl)
is_load elem.Char = (omega arith, refl)
is_load elem.Short = (omega arith, refl)

pub is_store : (e : Elem) → IsPlain (0x4F + elem_number e) (op.AStore e)
is_store elem.Int = (omega arith, refl)
is_store elem.Long = (omega arith, refl)
is_store elem.Ref = (omega arith, refl)
is_store elem.Byte = (omega arith, refl)
is_store elem.Char = (omega arith, refl)
is_store elem.Short = (omega arith, refl)

pub is_arith : (a : ArithOp) (n : Num) → IsPlain (arith_opcode a + num_number n) (op.Arith a n)
is_arith arith_op.Add num.Int = (omega arith, refl)
is_arith arith_op.Add num.Long = (omega arith, refl)
is_arith arith_op.Sub num.Int = (omega arith, refl)
is_arith arith_op.Sub num.Long = (omega arith, refl)
is_arith arith_op.Mul num.Int = (omega arith, refl)
is_arith arith_op.Mul num.Long = (omega arith, refl)
is_arith arith_op.Div num.Int = (omega arith, refl)
is_arith arith_op.Div num.Long = (omega arith, refl)
is_arith arith_op.Rem num.Int = (omega arith, refl)
is_arith arith_op.Rem num.Long = (omega arith, refl)

pub is_neg : (n : Num) → IsPlain (0x74 + num_number n) (op.Neg n)
is_neg num.Int = (omega arith, refl)
is_neg num.Long = (omega arith, refl)

pub is_shift : (s : ShiftOp) (n : Num) → IsPlain (shift_opcode s + num_number n) (op.Shift s n)
is_shift shift.Shl num.Int = (omega arith, refl)
is_shift shift.Shl num.Long = (omega arith, refl)
is_shift shift.Shr num.Int = (omega arith, refl)
is_shift shift.Shr num.Long = (omega arith, refl)
is_shift shift.Ushr num.Int = (omega arith, refl)
is_shift shift.Ushr num.Long = (omega arith, refl)

pub is_logic : (l : LogicOp) (n : Num) → IsPlain (logic_opcode l + num_number n) (op.Logic l n)
is_logic logic.And num.Int = (omega arith, refl)
is_logic logic.And num.Long = (omega arith, refl)
is_logic logic.Or num.Int = (omega arith, refl)
is_logic logic.Or num.Long = (omega arith, refl)
is_logic logic.Xor num.Int = (omega arith, refl)
is_logic logic.Xor num.Long = (omega arith, refl)

pub is_conv : (c : ConvOp) → IsPlain (conv_opcode c) (op.Conv c)
is_conv conv.I2l = (omega arith, refl)
is_conv conv.L2i = (omega arith, refl)
is_conv conv.I2b = (omega arith, refl)
is_conv conv.I2c = (omega arith, refl)
is_conv conv.I2s = (omega arith, refl)

pub is_return : (k : Option Kind) → IsPlain (return_opcode k) (op.Return k)
is_return None = (omega arith, refl)
is_return (Some kind.Int) = (omega arith, refl)
is_return (Some kind.Long) = (omega arith, refl)
is_return (Some kind.Ref) = (omega arith, refl)
