-- Which two instructions, handlers, types and constants are one is settled: each stands for numbers and texts.
use Rattle.std.proofs.Common.{◌≡◌, ◌⊎◌, inl, inr, ℕ, ℤ, Bool, List, [], Option, refl}
use Rattle.std.proofs.Common.{zero, suc}
use Rattle.jv_base.specs.declared.access.Access.{Access}
use Rattle.jv_base.specs.declared.types.Base.{Base}
use Rattle.jv_base.specs.declared.types.Base.TheVariants as base
use Rattle.jv_base.specs.declared.types.FieldType.{FieldType}
use Rattle.jv_base.specs.declared.types.MethodType.{MethodType}
use Rattle.class_model.specs.declared.class.Constant.{Constant}
use Rattle.class_model.specs.declared.class.Constant.TheVariants as constant
use Rattle.class_model.specs.declared.code.Handler.{Handler}
use Rattle.class_model.specs.declared.code.Ins.{Ins}
use Rattle.class_model.specs.declared.op.ArithOp.{ArithOp}
use Rattle.class_model.specs.declared.op.ArithOp.TheVariants as arith
use Rattle.class_model.specs.declared.op.Case.{Case}
use Rattle.class_model.specs.declared.op.Cond.{Cond}
use Rattle.class_model.specs.declared.op.Cond.TheVariants as cond
use Rattle.class_model.specs.declared.op.ConvOp.{ConvOp}
use Rattle.class_model.specs.declared.op.ConvOp.TheVariants as conv
use Rattle.class_model.specs.declared.op.Elem.{Elem}
use Rattle.class_model.specs.declared.op.Elem.TheVariants as elem
use Rattle.class_model.specs.declared.op.Kind.{Kind}
use Rattle.class_model.specs.declared.op.Kind.TheVariants as kind
use Rattle.class_model.specs.declared.op.LogicOp.{LogicOp}
use Rattle.class_model.specs.declared.op.LogicOp.TheVariants as logic
use Rattle.class_model.specs.declared.op.MemberRef.{MemberRef}
use Rattle.class_model.specs.declared.op.Num.{Num}
use Rattle.class_model.specs.declared.op.Num.TheVariants as num
use Rattle.class_model.specs.declared.op.Op.{Op}
use Rattle.class_model.specs.declared.op.Op.TheVariants as op
use Rattle.class_model.specs.declared.op.ShiftOp.{ShiftOp}
use Rattle.class_model.specs.declared.op.ShiftOp.TheVariants as shift
use Rattle.answer_laws.proofs.Deciding.{Apart, apart_by, integers_apart, lists_apart, numbers_apart}
use Rattle.answer_laws.proofs.Deciding.{options_apart, pairs_apart, sums_apart, truths_apart}

pub texts_apart : Apart (List ℕ)
texts_apart = lists_apart numbers_apart

pub flags_apart : Apart Access
flags_apart = apart_by (λ (a : Access). a.0) (λ bits. record { 0 = bits }) (λ a. refl) numbers_apart

-- ---- values of a few kinds

abbrev kind_number : Kind → ℕ
kind_number kind.Int = 0
kind_number kind.Long = 1
kind_number kind.Ref = 2

abbrev kind_of : ℕ → Kind
kind_of zero = kind.Int
kind_of (suc zero) = kind.Long
kind_of n = kind.Ref

kinds_apart : Apart Kind
kinds_apart = apart_by kind_number kind_of back numbers_apart
  where
    back : (x : Kind) → kind_of (kind_number x) ≡ x
    back kind.Int = refl
    back kind.Long = refl
    back kind.Ref = refl

abbrev num_number : Num → ℕ
num_number num.Int = 0
num_number num.Long = 1

abbrev num_of : ℕ → Num
num_of zero = num.Int
num_of n = num.Long

nums_apart : Apart Num
nums_apart = apart_by num_number num_of back numbers_apart
  where
    back : (x : Num) → num_of (num_number x) ≡ x
    back num.Int = refl
    back num.Long = refl

abbrev elem_number : Elem → ℕ
elem_number elem.Int = 0
elem_number elem.Long = 1
elem_number elem.Ref = 2
elem_number elem.Byte = 3
elem_number elem.Char = 4
elem_number elem.Short = 5

abbrev elem_of : ℕ → Elem
elem_of zero = elem.Int
elem_of (suc zero) = elem.Long
elem_of (suc (suc zero)) = elem.Ref
elem_of (suc (suc (suc zero))) = elem.Byte
elem_of (suc (suc (suc (suc zero)))) = elem.Char
elem_of n = elem.Short

elems_apart : Apart Elem
elems_apart = apart_by elem_number elem_of back numbers_apart
  where
    back : (x : Elem) → elem_of (elem_number x) ≡ x
    back elem.Int = refl
    back elem.Long = refl
    back elem.Ref = refl
    back elem.Byte = refl
    back elem.Char = refl
    back elem.Short = refl

abbrev arith_number : ArithOp → ℕ
arith_number arith.Add = 0
arith_number arith.Sub = 1
arith_number arith.Mul = 2
arith_number arith.Div = 3
arith_number arith.Rem = 4

abbrev arith_of : ℕ → ArithOp
arith_of zero = arith.Add
arith_of (suc zero) = arith.Sub
arith_of (suc (suc zero)) = arith.Mul
arith_of (suc (suc (suc zero))) = arith.Div
arith_of n = arith.Rem

ariths_apart : Apart ArithOp
ariths_apart = apart_by arith_number arith_of back numbers_apart
  where
    back : (x : ArithOp) → arith_of (arith_number x) ≡ x
    back arith.Add = refl
    back arith.Sub = refl
    back arith.Mul = refl
    back arith.Div = refl
    back arith.Rem = refl

abbrev shift_number : ShiftOp → ℕ
shift_number shift.Shl = 0
shift_number shift.Shr = 1
shift_number shift.Ushr = 2

abbrev shift_of : ℕ → ShiftOp
shift_of zero = shift.Shl
shift_of (suc zero) = shift.Shr
shift_of n = shift.Ushr

shifts_apart : Apart ShiftOp
shifts_apart = apart_by shift_number shift_of back numbers_apart
  where
    back : (x : ShiftOp) → shift_of (shift_number x) ≡ x
    back shift.Shl = refl
    back shift.Shr = refl
    back shift.Ushr = refl

abbrev logic_number : LogicOp → ℕ
logic_number logic.And = 0
logic_number logic.Or = 1
logic_number logic.Xor = 2

abbrev logic_of : ℕ → LogicOp
logic_of zero = logic.And
logic_of (suc zero) = logic.Or
logic_of n = logic.Xor

logics_apart : Apart LogicOp
logics_apart = apart_by logic_number logic_of back numbers_apart
  where
    back : (x : LogicOp) → logic_of (logic_number x) ≡ x
    back logic.And = refl
    back logic.Or = refl
    back logic.Xor = refl

abbrev conv_number : ConvOp → ℕ
conv_number conv.I2l = 0
conv_number conv.L2i = 1
conv_number conv.I2b = 2
conv_number conv.I2c = 3
conv_number conv.I2s = 4

abbrev conv_of : ℕ → ConvOp
conv_of zero = conv.I2l
conv_of (suc zero) = conv.L2i
conv_of (suc (suc zero)) = conv.I2b
conv_of (suc (suc (suc zero))) = conv.I2c
conv_of n = conv.I2s

convs_apart : Apart ConvOp
convs_apart = apart_by conv_number conv_of back numbers_apart
  where
    back : (x : ConvOp) → conv_of (conv_number x) ≡ x
    back conv.I2l = refl
    back conv.L2i = refl
    back conv.I2b = refl
    back conv.I2c = refl
    back conv.I2s = refl

abbrev cond_number : Cond → ℕ
cond_number cond.Eq = 0
cond_number cond.Ne = 1
cond_number cond.Lt = 2
cond_number cond.Ge = 3
cond_number cond.Gt = 4
cond_number cond.Le = 5

abbrev cond_of : ℕ → Cond
cond_of zero = cond.Eq
cond_of (suc zero) = cond.Ne
cond_of (suc (suc zero)) = cond.Lt
cond_of (suc (suc (suc zero))) = cond.Ge
cond_of (suc (suc (suc (suc zero)))) = cond.Gt
cond_of n = cond.Le

conds_apart : Apart Cond
conds_apart = apart_by cond_number cond_of back numbers_apart
  where
    back : (x : Cond) → cond_of (cond_number x) ≡ x
    back cond.Eq = refl
    back cond.Ne = refl
    back cond.Lt = refl
    back cond.Ge = refl
    back cond.Gt = refl
    back cond.Le = refl

-- ---- types and references

abbrev base_code : Base → ℕ × List ℕ
base_code base.Boolean = (0, [])
base_code base.Byte = (1, [])
base_code base.Char = (2, [])
base_code base.Short = (3, [])
base_code base.Int = (4, [])
base_code base.Long = (5, [])
base_code base.Float = (6, [])
base_code base.Double = (7, [])
base_code (base.Class name) = (8, name)

abbrev base_of : ℕ × List ℕ → Base
base_of (zero, name) = base.Boolean
base_of ((suc zero), name) = base.Byte
base_of ((suc (suc zero)), name) = base.Char
base_of ((suc (suc (suc zero))), name) = base.Short
base_of ((suc (suc (suc (suc zero)))), name) = base.Int
base_of ((suc (suc (suc (suc (suc zero))))), name) = base.Long
base_of ((suc (suc (suc (suc (suc (suc zero)))))), name) = base.Float
base_of ((suc (suc (suc (suc (suc (suc (suc zero))))))), name) = base.Double
base_of (n, name) = base.Class name

pub bases_apart : Apart Base
bases_apart = apart_by base_code base_of back (pairs_apart numbers_apart texts_apart)
  where
    back : (x : Base) → base_of (base_code x) ≡ x
    back base.Boolean = refl
    back base.Byte = refl
    back base.Char = refl
    back base.Short = refl
    back base.Int = refl
    back base.Long = refl
    back base.Float = refl
    back base.Double = refl
    back (base.Class name) = refl

pub types_apart : Apart FieldType
types_apart = apart_by (λ (t : FieldType). (t.dims, t.base)) (λ p. record { dims = p.0; base = p.1 }) (λ t. refl)
    (pairs_apart numbers_apart bases_apart)

pub method_types_apart : Apart MethodType
method_types_apart = apart_by (λ (t : MethodType). (t.args, t.ret)) (λ p. record { args = p.0; ret = p.1 }) (λ t. refl)
    (pairs_apart (lists_apart types_apart) (options_apart types_apart))

abbrev RefCode : Type 0
RefCode = FieldType × (List ℕ × (List ℕ × Bool))

abbrev ref_code : MemberRef → RefCode
ref_code r = (r.class, (r.name, (r.ty, r.of_interface)))

abbrev ref_of : RefCode → MemberRef
ref_of p = record { class = p.0; name = p.1.0; ty = p.1.1.0; of_interface = p.1.1.1 }

refs_apart : Apart MemberRef
refs_apart = apart_by ref_code ref_of (λ r. refl)
    (pairs_apart types_apart (pairs_apart texts_apart (pairs_apart texts_apart truths_apart)))

cases_apart : Apart Case
cases_apart = apart_by (λ (c : Case). (c.key, c.to)) (λ p. record { key = p.0; to = p.1 }) (λ c. refl)
    (pairs_apart integers_apart numbers_apart)

-- ---- constants

abbrev constant_code : Constant → ℤ ⊎ (ℤ ⊎ List ℕ)
constant_code (constant.Int z) = inl z
constant_code (constant.Long z) = inr (inl z)
constant_code (constant.Text units) = inr (inr units)

abbrev constant_of : ℤ ⊎ (ℤ ⊎ List ℕ) → Constant
constant_of (inl z) = constant.Int z
constant_of (inr (inl z)) = constant.Long z
constant_of (inr (inr units)) = constant.Text units

pub constants_apart : Apart Constant
constants_apart = apart_by constant_code constant_of back
    (sums_apart integers_apart (sums_apart integers_apart texts_apart))
  where
    back : (c : Constant) → constant_of (constant_code c) ≡ c
    back (constant.Int z) = refl
    back (constant.Long z) = refl
    back (constant.Text units) = refl

-- ---- instructions

-- what moves values
abbrev Loads : Type 0
Loads = ℕ ⊎ ((ℕ × ℤ) ⊎ ((ℕ × List ℕ) ⊎ ((ℕ × (Kind × ℕ)) ⊎ ((ℕ × ℤ) ⊎ (ℕ × Elem)))))

-- what computes
abbrev Sums : Type 0
Sums = (ArithOp × Num) ⊎ (Num ⊎ ((ShiftOp × Num) ⊎ ((LogicOp × Num) ⊎ ConvOp)))

-- what goes elsewhere
abbrev Branches : Type 0
Branches = (ℕ × (Cond × ℕ)) ⊎ ((ℕ × (Bool × ℕ)) ⊎ (ℕ ⊎ ((ℤ × (ℕ × List ℕ)) ⊎ ((ℕ × List Case) ⊎ (Option Kind)))))

-- what names a class or a member
abbrev Uses : Type 0
Uses = (ℕ × MemberRef) ⊎ (Base ⊎ ((ℕ × FieldType) ⊎ (FieldType × ℕ)))

abbrev OpCode : Type 0
OpCode = Loads ⊎ (Sums ⊎ (Branches ⊎ Uses))

abbrev op_code : Op → OpCode
op_code op.Nop = inl (inl 0)
op_code op.PushNull = inl (inl 1)
op_code op.Pop = inl (inl 2)
op_code op.Pop2 = inl (inl 3)
op_code op.Dup = inl (inl 4)
op_code op.DupX1 = inl (inl 5)
op_code op.DupX2 = inl (inl 6)
op_code op.Dup2 = inl (inl 7)
op_code op.Dup2X1 = inl (inl 8)
op_code op.Dup2X2 = inl (inl 9)
op_code op.Swap = inl (inl 10)
op_code op.LCmp = inl (inl 11)
op_code op.ArrayLength = inl (inl 12)
op_code op.Throw = inl (inl 13)
op_code (op.PushInt z) = inl (inr (inl (0, z)))
op_code (op.PushLong z) = inl (inr (inl (1, z)))
op_code (op.PushText text) = inl (inr (inr (inl (0, text))))
op_code (op.New text) = inl (inr (inr (inl (1, text))))
op_code (op.Load k slot) = inl (inr (inr (inr (inl (0, (k, slot))))))
op_code (op.Store k slot) = inl (inr (inr (inr (inl (1, (k, slot))))))
op_code (op.Inc slot by) = inl (inr (inr (inr (inr (inl (slot, by))))))
op_code (op.ALoad e) = inl (inr (inr (inr (inr (inr (0, e))))))
op_code (op.AStore e) = inl (inr (inr (inr (inr (inr (1, e))))))
op_code (op.Arith o n) = inr (inl (inl (o, n)))
op_code (op.Neg n) = inr (inl (inr (inl n)))
op_code (op.Shift o n) = inr (inl (inr (inr (inl (o, n)))))
op_code (op.Logic o n) = inr (inl (inr (inr (inr (inl (o, n))))))
op_code (op.Conv o) = inr (inl (inr (inr (inr (inr o)))))
op_code (op.IfZero c to) = inr (inr (inl (inl (0, (c, to)))))
op_code (op.IfCmp c to) = inr (inr (inl (inl (1, (c, to)))))
op_code (op.IfRef is to) = inr (inr (inl (inr (inl (0, (is, to))))))
op_code (op.IfNull is to) = inr (inr (inl (inr (inl (1, (is, to))))))
op_code (op.Goto to) = inr (inr (inl (inr (inr (inl to)))))
op_code (op.TableSwitch low other cases) = inr (inr (inl (inr (inr (inr (inl (low, (other, cases))))))))
op_code (op.LookupSwitch other cases) = inr (inr (inl (inr (inr (inr (inr (inl (other, cases))))))))
op_code (op.Return k) = inr (inr (inl (inr (inr (inr (inr (inr k)))))))
op_code (op.GetStatic r) = inr (inr (inr (inl (0, r))))
op_code (op.PutStatic r) = inr (inr (inr (inl (1, r))))
op_code (op.GetField r) = inr (inr (inr (inl (2, r))))
op_code (op.PutField r) = inr (inr (inr (inl (3, r))))
op_code (op.InvokeVirtual r) = inr (inr (inr (inl (4, r))))
op_code (op.InvokeSpecial r) = inr (inr (inr (inl (5, r))))
op_code (op.InvokeStatic r) = inr (inr (inr (inl (6, r))))
op_code (op.InvokeInterface r) = inr (inr (inr (inl (7, r))))
op_code (op.NewArray b) = inr (inr (inr (inr (inl b))))
op_code (op.ANewArray t) = inr (inr (inr (inr (inr (inl (0, t))))))
op_code (op.CheckCast t) = inr (inr (inr (inr (inr (inl (1, t))))))
op_code (op.InstanceOf t) = inr (inr (inr (inr (inr (inl (2, t))))))
op_code (op.MultiNewArray t dims) = inr (inr (inr (inr (inr (inr (t, dims))))))

abbrev op_of : OpCode → Op
op_of (inl (inl zero)) = op.Nop
op_of (inl (inl (suc zero))) = op.PushNull
op_of (inl (inl (suc (suc zero)))) = op.Pop
op_of (inl (inl (suc (suc (suc zero))))) = op.Pop2
op_of (inl (inl (suc (suc (suc (suc zero)))))) = op.Dup
op_of (inl (inl (suc (suc (suc (suc (suc zero))))))) = op.DupX1
op_of (inl (inl (suc (suc (suc (suc (suc (suc zero)))))))) = op.DupX2
op_of (inl (inl (suc (suc (suc (suc (suc (suc (suc zero))))))))) = op.Dup2
op_of (inl (inl (suc (suc (suc (suc (suc (suc (suc (suc zero)))))))))) = op.Dup2X1
op_of (inl (inl (suc (suc (suc (suc (suc (suc (suc (suc (suc zero))))))))))) = op.Dup2X2
op_of (inl (inl (suc (suc (suc (suc (suc (suc (suc (suc (suc (suc zero)))))))))))) = op.Swap
op_of (inl (inl (suc (suc (suc (suc (suc (suc (suc (suc (suc (suc (suc zero))))))))))))) = op.LCmp
op_of (inl (inl (suc (suc (suc (suc (suc (suc (suc (suc (suc (suc (suc (suc zero)))))))))))))) = op.ArrayLength
op_of (inl (inl n)) = op.Throw
op_of (inl (inr (inl (zero, z)))) = op.PushInt z
op_of (inl (inr (inl (n, z)))) = op.PushLong z
op_of (inl (inr (inr (inl (zero, text))))) = op.PushText text
op_of (inl (inr (inr (inl (n, text))))) = op.New text
op_of (inl (inr (inr (inr (inl (zero, (k, slot))))))) = op.Load k slot
op_of (inl (inr (inr (inr (inl (n, (k, slot))))))) = op.Store k slot
op_of (inl (inr (inr (inr (inr (inl (slot, by))))))) = op.Inc slot by
op_of (inl (inr (inr (inr (inr (inr (zero, e))))))) = op.ALoad e
op_of (inl (inr (inr (inr (inr (inr (n, e))))))) = op.AStore e
op_of (inr (inl (inl (o, n)))) = op.Arith o n
op_of (inr (inl (inr (inl n)))) = op.Neg n
op_of (inr (inl (inr (inr (inl (o, n)))))) = op.Shift o n
op_of (inr (inl (inr (inr (inr (inl (o, n))))))) = op.Logic o n
op_of (inr (inl (inr (inr (inr (inr o)))))) = op.Conv o
op_of (inr (inr (inl (inl (zero, (c, to)))))) = op.IfZero c to
op_of (inr (inr (inl (inl (n, (c, to)))))) = op.IfCmp c to
op_of (inr (inr (inl (inr (inl (zero, (is, to))))))) = op.IfRef is to
op_of (inr (inr (inl (inr (inl (n, (is, to))))))) = op.IfNull is to
op_of (inr (inr (inl (inr (inr (inl to)))))) = op.Goto to
op_of (inr (inr (inl (inr (inr (inr (inl (low, (other, cases))))))))) = op.TableSwitch low other cases
op_of (inr (inr (inl (inr (inr (inr (inr (inl (other, cases))))))))) = op.LookupSwitch other cases
op_of (inr (inr (inl (inr (inr (inr (inr (inr k)))))))) = op.Return k
op_of (inr (inr (inr (inl (zero, r))))) = op.GetStatic r
op_of (inr (inr (inr (inl ((suc zero), r))))) = op.PutStatic r
op_of (inr (inr (inr (inl ((suc (suc zero)), r))))) = op.GetField r
op_of (inr (inr (inr (inl ((suc (suc (suc zero))), r))))) = op.PutField r
op_of (inr (inr (inr (inl ((suc (suc (suc (suc zero)))), r))))) = op.InvokeVirtual r
op_of (inr (inr (inr (inl ((suc (suc (suc (suc (suc zero))))), r))))) = op.InvokeSpecial r
op_of (inr (inr (inr (inl ((suc (suc (suc (suc (suc (suc zero)))))), r))))) = op.InvokeStatic r
op_of (inr (inr (inr (inl (n, r))))) = op.InvokeInterface r
op_of (inr (inr (inr (inr (inl b))))) = op.NewArray b
op_of (inr (inr (inr (inr (inr (inl (zero, t))))))) = op.ANewArray t
op_of (inr (inr (inr (inr (inr (inl ((suc zero), t))))))) = op.CheckCast t
op_of (inr (inr (inr (inr (inr (inl (n, t))))))) = op.InstanceOf t
op_of (inr (inr (inr (inr (inr (inr (t, dims))))))) = op.MultiNewArray t dims

loads_apart : Apart Loads
loads_apart =
    sums_apart numbers_apart (sums_apart (pairs_apart numbers_apart integers_apart)
    (sums_apart (pairs_apart numbers_apart texts_apart)
    (sums_apart (pairs_apart numbers_apart (pairs_apart kinds_apart numbers_apart))
    (sums_apart (pairs_apart numbers_apart integers_apart) (pairs_apart numbers_apart elems_apart)))))

sums_of_apart : Apart Sums
sums_of_apart =
    sums_apart (pairs_apart ariths_apart nums_apart) (sums_apart nums_apart
    (sums_apart (pairs_apart shifts_apart nums_apart) (sums_apart (pairs_apart logics_apart nums_apart) convs_apart)))

branches_apart : Apart Branches
branches_apart =
    sums_apart (pairs_apart numbers_apart (pairs_apart conds_apart numbers_apart))
    (sums_apart (pairs_apart numbers_apart (pairs_apart truths_apart numbers_apart)) (sums_apart numbers_apart
    (sums_apart (pairs_apart integers_apart (pairs_apart numbers_apart texts_apart))
    (sums_apart (pairs_apart numbers_apart (lists_apart cases_apart)) (options_apart kinds_apart)))))

uses_apart : Apart Uses
uses_apart =
    sums_apart (pairs_apart numbers_apart refs_apart) (sums_apart bases_apart
    (sums_apart (pairs_apart numbers_apart types_apart) (pairs_apart types_apart numbers_apart)))

pub ops_apart : Apart Op
ops_apart = apart_by op_code op_of back
    (sums_apart loads_apart (sums_apart sums_of_apart (sums_apart branches_apart uses_apart)))
  where
    back : (o : Op) → op_of (op_code o) ≡ o
    back op.Nop = refl
    back op.PushNull = refl
    back op.Pop = refl
    back op.Pop2 = refl
    back op.Dup = refl
    back op.DupX1 = refl
    back op.DupX2 = refl
    back op.Dup2 = refl
    back op.Dup2X1 = refl
    back op.Dup2X2 = refl
    back op.Swap = refl
    back op.LCmp = refl
    back op.ArrayLength = refl
    back op.Throw = refl
    back (op.PushInt z) = refl
    back (op.PushLong z) = refl
    back (op.PushText text) = refl
    back (op.New text) = refl
    back (op.Load k slot) = refl
    back (op.Store k slot) = refl
    back (op.Inc slot by) = refl
    back (op.ALoad e) = refl
    back (op.AStore e) = refl
    back (op.Arith o n) = refl
    back (op.Neg n) = refl
    back (op.Shift o n) = refl
    back (op.Logic o n) = refl
    back (op.Conv o) = refl
    back (op.IfZero c to) = refl
    back (op.IfCmp c to) = refl
    back (op.IfRef is to) = refl
    back (op.IfNull is to) = refl
    back (op.Goto to) = refl
    back (op.TableSwitch low other cases) = refl
    back (op.LookupSwitch other cases) = refl
    back (op.Return k) = refl
    back (op.GetStatic r) = refl
    back (op.PutStatic r) = refl
    back (op.GetField r) = refl
    back (op.PutField r) = refl
    back (op.InvokeVirtual r) = refl
    back (op.InvokeSpecial r) = refl
    back (op.InvokeStatic r) = refl
    back (op.InvokeInterface r) = refl
    back (op.NewArray b) = refl
    back (op.ANewArray t) = refl
    back (op.CheckCast t) = refl
    back (op.InstanceOf t) = refl
    back (op.MultiNewArray t dims) = refl

pub instructions_apart : Apart Ins
instructions_apart = apart_by (λ (i : Ins). (i.op, i.line)) (λ p. record { op = p.0; line = p.1 }) (λ i. refl)
    (pairs_apart ops_apart (options_apart numbers_apart))

abbrev HandlerCode : Type 0
HandlerCode = ℕ × (ℕ × (ℕ × Option (List ℕ)))

abbrev handler_of : HandlerCode → Handler
handler_of p = record { from = p.0; to = p.1.0; entry = p.1.1.0; caught = p.1.1.1 }

pub handlers_apart : Apart Handler
handlers_apart = apart_by (λ (h : Handler). (h.from, (h.to, (h.entry, h.caught)))) handler_of (λ h. refl)
    (pairs_apart numbers_apart (pairs_apart numbers_apart (pairs_apart numbers_apart (options_apart texts_apart))))
