-- What each instruction does in its frame (JVMS 6.5). It is told in two layers: here each family of instructions is of
-- a sort, by what it touches; `Local` says what a frame does at an instruction of a sort.
use Rattle.std.specs.Prelude.{ℕ, ℤ, pos, ◌-ℤ◌, List, [], ◌∷◌, Option, Some, None, Bool, true, false, int_rem, slice_get}
use Rattle.std.specs.Prelude.{if◌then◌else◌}
use Rattle.std.specs.Bool.{beq}
use Rattle.std.specs.Int.{w8, w16, w32, int_rem_euclid, int_wrap, int_wrapping_add, int_wrapping_div, int_wrapping_mul}
use Rattle.std.specs.Int.{int_wrapping_neg, int_wrapping_sub}
use Rattle.std.specs.List.{find}
use Rattle.std.specs.Option.{option_and_then, option_map, unwrap_or}
use Rattle.std.specs.Ordering.{int_eq}
use Rattle.jv_base.specs.declared.types.FieldType.{FieldType}
use Rattle.class_model.specs.declared.op.ArithOp.{ArithOp}
use Rattle.class_model.specs.declared.op.ArithOp.TheVariants as arith
use Rattle.class_model.specs.declared.op.Case.{Case}
use Rattle.class_model.specs.declared.op.ConvOp.{ConvOp}
use Rattle.class_model.specs.declared.op.ConvOp.TheVariants as conv
use Rattle.class_model.specs.declared.op.Elem.{Elem}
use Rattle.class_model.specs.declared.op.Kind.{Kind}
use Rattle.class_model.specs.declared.op.Kind.TheVariants as kind
use Rattle.class_model.specs.declared.op.MemberRef.{MemberRef}
use Rattle.class_model.specs.declared.op.Num.{Num}
use Rattle.class_model.specs.declared.op.Op.{Op}
use Rattle.class_model.specs.declared.op.Op.TheVariants as op
use Rattle.jvm_model.specs.Exceptions.{Exception, Arithmetic}
use Rattle.jvm_model.specs.Numbers.{as_number, compared, holds, joined, number, shifted, width_of}
use Rattle.jvm_model.specs.Stack.{◌>>=◌, Reader, counts_above, doubled, dropped, many, one, swapped, three, two, with}
use Rattle.jvm_model.specs.Types.{argument_kinds, field_kind, kind_of_elem}
use Rattle.jvm_model.specs.Value.{Value, Int, Long, Null, Lit, as_int, as_kind, as_long, same_reference}

-- What a frame asks of all that lies outside the frames. Two need nothing from there: a value that is known, and an
-- exception that is thrown. Operands stand in their order, an object or an array first.
pub data Request : Type 0 where
  Known : Value → Request
  Raise : Exception → Request
  GetStatic : MemberRef → Request
  PutStatic : MemberRef → Value → Request
  GetField : MemberRef → Value → Request
  PutField : MemberRef → Value → Value → Request
  CallStatic : MemberRef → List Value → Request
  CallSpecial : MemberRef → List Value → Request
  CallVirtual : MemberRef → List Value → Request
  CallInterface : MemberRef → List Value → Request
  New : List ℕ → Request
  NewArray : FieldType → ℤ → Request
  NewArrays : FieldType → List ℤ → Request
  ArrayLength : Value → Request
  GetAt : Elem → Value → ℤ → Request
  PutAt : Elem → Value → ℤ → Value → Request
  Cast : FieldType → Value → Request
  Test : FieldType → Value → Request

-- The sorts of instructions: it changes the stack alone; moves a value from a slot, or into one; adds to a slot; goes
-- to an index, or to the next; asks; leaves the method, with a value or without; throws. A reader takes the operands.
pub data Sort : Type 0 where
  OnStack : (List Value → Option (List Value)) → Sort
  Loads : Kind → ℕ → Sort
  Stores : Kind → ℕ → Sort
  Incs : ℕ → ℤ → Sort
  Jumps : Reader (Option ℕ) → Sort
  Asks : Reader Request → Sort
  Leaves : Reader (Option Value) → Sort
  Throws : Sort

-- the value that is read is pushed: JVMS's "→ ..., result"
abbrev pub pushes : Reader Value → Sort
pushes read = OnStack (λ s. do
  p ← read s
  Some (p.0 ∷ p.1))

-- ---- numbers

-- two numbers give one
abbrev pub computes : Num → (ℤ → ℤ → ℤ) → Sort
computes n f = pushes (two (as_number n) (as_number n) (λ a b. number n (f a b)))

-- the same, where the second isn't zero (JVMS 6.5.idiv, 6.5.irem)
abbrev pub divides : Num → (ℤ → ℤ → ℤ) → Sort
divides n f = Asks (two (as_number n) (as_number n)
    (λ a b. if int_eq b (pos 0) then Raise Arithmetic else Known (number n (f a b))))

-- what each operation computes (JVMS 6.5.iadd, 6.5.isub, 6.5.imul, 6.5.idiv, 6.5.irem, and those of long)
abbrev pub arithmetic : ArithOp → Num → Sort
arithmetic arith.Add n = computes n (int_wrapping_add (width_of n))
arithmetic arith.Sub n = computes n (int_wrapping_sub (width_of n))
arithmetic arith.Mul n = computes n (int_wrapping_mul (width_of n))
arithmetic arith.Div n = divides n (int_wrapping_div (width_of n))
arithmetic arith.Rem n = divides n int_rem

-- a number as one of another type (JVMS 6.5.i2l, 6.5.l2i, 6.5.i2b, 6.5.i2c, 6.5.i2s)
abbrev pub conversion : ConvOp → Sort
conversion conv.I2l = pushes (one as_int Long)
conversion conv.L2i = pushes (one as_long (λ z. Int (int_wrap w32 z)))
conversion conv.I2b = pushes (one as_int (λ z. Int (int_wrap w8 z)))
conversion conv.I2c = pushes (one as_int (λ z. Int (int_rem_euclid z (pos 65536))))
conversion conv.I2s = pushes (one as_int (λ z. Int (int_wrap w16 z)))

-- ---- control

-- to the target, or to the next index
abbrev pub jump_if : Bool → ℕ → Option ℕ
jump_if true target = Some target
jump_if false target = None

-- the target for a key from `low` on (JVMS 6.5.tableswitch)
abbrev pub table_target : List ℕ → ℤ → Option ℕ
table_target targets (pos n) = slice_get targets n
table_target targets _ = None

-- the target of the case with this key (JVMS 6.5.lookupswitch)
abbrev pub case_target : List Case → ℤ → Option ℕ
case_target cases z = option_map (λ c. c.to) (find (λ c. int_eq c.key z) cases)

-- ---- operands by a descriptor

-- a value of the field's type
abbrev pub as_field : MemberRef → Value → Option Value
as_field r v = option_and_then (λ k. as_kind k v) (field_kind r.ty)

-- the arguments that a descriptor tells
abbrev pub taking : Option (List Kind) → (List Value → Request) → Reader Request
taking None ask s = None
taking (Some kinds) ask s = do
  p ← many kinds s
  Some (ask p.0, p.1)

-- and an object before them
abbrev pub with_receiver : Option (List Kind) → Option (List Kind)
with_receiver kinds = option_map (λ ks. kind.Ref ∷ ks) kinds

-- the sizes of the first dimensions of an array (JVMS 6.5.multianewarray)
abbrev pub taking_counts : ℕ → (List ℤ → Request) → Reader Request
taking_counts n ask s = do
  p ← counts_above n [] s
  Some (ask p.0, p.1)

-- ---- the families (JVMS 6.5)

-- the sort of each family
abbrev pub sort_of : Op → Sort
-- constants
sort_of op.Nop = OnStack Some
sort_of op.PushNull = pushes (with Null)
sort_of (op.PushInt n) = pushes (with (Int n))
sort_of (op.PushLong n) = pushes (with (Long n))
sort_of (op.PushText units) = pushes (with (Lit units))
-- loads and stores
sort_of (op.Load k slot) = Loads k slot
sort_of (op.Store k slot) = Stores k slot
sort_of (op.ALoad e) = Asks (two (as_kind kind.Ref) as_int (GetAt e))
sort_of (op.AStore e) = Asks (three (as_kind kind.Ref) as_int (as_kind (kind_of_elem e)) (PutAt e))
-- stack
sort_of op.Pop = OnStack (dropped 1)
sort_of op.Pop2 = OnStack (dropped 2)
sort_of op.Dup = OnStack (doubled 1 0)
sort_of op.DupX1 = OnStack (doubled 1 1)
sort_of op.DupX2 = OnStack (doubled 1 2)
sort_of op.Dup2 = OnStack (doubled 2 0)
sort_of op.Dup2X1 = OnStack (doubled 2 1)
sort_of op.Dup2X2 = OnStack (doubled 2 2)
sort_of op.Swap = OnStack swapped
-- math
sort_of (op.Arith o n) = arithmetic o n
sort_of (op.Neg n) = pushes (one (as_number n) (λ z. number n (int_wrapping_neg (width_of n) z)))
sort_of (op.Shift o n) = pushes (two (as_number n) as_int (λ z k. number n (shifted o n z k)))
sort_of (op.Logic o n) = computes n (joined o n)
sort_of (op.Inc slot z) = Incs slot z
-- conversions and comparisons
sort_of (op.Conv o) = conversion o
sort_of op.LCmp = pushes (two as_long as_long (λ a b. Int (compared a b)))
sort_of (op.IfZero c target) = Jumps (one as_int (λ a. jump_if (holds c a (pos 0)) target))
sort_of (op.IfCmp c target) = Jumps (two as_int as_int (λ a b. jump_if (holds c a b) target))
sort_of (op.IfRef eq target) = Jumps (two (as_kind kind.Ref) (as_kind kind.Ref)
    (λ a b. jump_if (beq eq (same_reference a b)) target))
sort_of (op.IfNull null target) = Jumps (one (as_kind kind.Ref)
    (λ a. jump_if (beq null (same_reference a Null)) target))
-- control
sort_of (op.Goto target) = Jumps (with (Some target))
sort_of (op.TableSwitch low other targets) = Jumps (one as_int
    (λ z. Some (unwrap_or (table_target targets (z -ℤ low)) other)))
sort_of (op.LookupSwitch other cases) = Jumps (one as_int (λ z. Some (unwrap_or (case_target cases z) other)))
sort_of (op.Return None) = Leaves (with None)
sort_of (op.Return (Some k)) = Leaves (one (as_kind k) Some)
sort_of op.Throw = Throws
-- references
sort_of (op.GetStatic r) = Asks (with (GetStatic r))
sort_of (op.PutStatic r) = Asks (one (as_field r) (PutStatic r))
sort_of (op.GetField r) = Asks (one (as_kind kind.Ref) (GetField r))
sort_of (op.PutField r) = Asks (two (as_kind kind.Ref) (as_field r) (PutField r))
sort_of (op.InvokeVirtual r) = Asks (taking (with_receiver (argument_kinds r.ty)) (CallVirtual r))
sort_of (op.InvokeSpecial r) = Asks (taking (with_receiver (argument_kinds r.ty)) (CallSpecial r))
sort_of (op.InvokeStatic r) = Asks (taking (argument_kinds r.ty) (CallStatic r))
sort_of (op.InvokeInterface r) = Asks (taking (with_receiver (argument_kinds r.ty)) (CallInterface r))
sort_of (op.New class) = Asks (with (New class))
sort_of (op.NewArray b) = Asks (one as_int (NewArray (record { dims = 0; base = b })))
sort_of (op.ANewArray ty) = Asks (one as_int (NewArray ty))
sort_of op.ArrayLength = Asks (one (as_kind kind.Ref) ArrayLength)
sort_of (op.CheckCast ty) = Asks (one (as_kind kind.Ref) (Cast ty))
sort_of (op.InstanceOf ty) = Asks (one (as_kind kind.Ref) (Test ty))
sort_of (op.MultiNewArray ty n) = Asks (taking_counts n (NewArrays ty))
