-- The numbers and texts of a class are those that its type in the code can hold
-- (the project's own: the code's numbers and texts are bounded).
use Rattle.std.specs.Prelude.{◌^◌, ◌<◌, IfSome}
use Rattle.std.specs.Int.{w32, w64}
use Rattle.std.specs.Int.RustNames.{FitsSigned}
use Rattle.std.specs.List.{AllByRecursion}
use Rattle.jv_base.specs.declared.types.FieldType.{FieldType}
use Rattle.jv_base.specs.declared.types.MethodType.{MethodType}
use Rattle.class_model.specs.declared.op.Op.{Op}
use Rattle.class_model.specs.declared.op.Op.TheVariants as op
use Rattle.class_model.specs.declared.code.Code.{Code}
use Rattle.class_model.specs.declared.code.Ins.{Ins}
use Rattle.class_model.specs.declared.frame.VType.{VType}
use Rattle.class_model.specs.declared.frame.VType.TheVariants as vtype
use Rattle.class_model.specs.declared.frame.FrameAt.{FrameAt}
use Rattle.class_model.specs.declared.class.Constant.{Constant}
use Rattle.class_model.specs.declared.class.Constant.TheVariants as constant
use Rattle.class_model.specs.declared.class.Field.{Field}
use Rattle.class_model.specs.declared.class.Method.{Method}
use Rattle.class_model.specs.declared.class.Class.{Class}
use Rattle.class_model.specs.OpValues.{IsBaseValue, IsOpValue}

-- the name of a class in a type is a text
abbrev pub IsFieldTypeValue : FieldType → Type 0
IsFieldTypeValue ty = IsBaseValue ty.base

-- so are those in the type of a method
pub record IsMethodTypeValue (ty : MethodType) : Type 0 where
  pub arguments : AllByRecursion IsFieldTypeValue ty.args
  pub returned : IfSome ty.ret IsFieldTypeValue

-- an int has four bytes, a long eight
abbrev pub IsPushValue : Op → Type 0
IsPushValue (op.PushInt n) = FitsSigned w32 n
IsPushValue (op.PushLong n) = FitsSigned w64 n
IsPushValue _ = Unit {0}

-- an instruction and its line, which has two bytes
pub record IsInsValue (i : Ins) : Type 0 where
  pub op : IsOpValue i.op
  pub pushed : IsPushValue i.op
  pub line : IfSome i.line (λ n. n < 2 ^ 16)

-- a type in a frame
abbrev pub IsVTypeValue : VType → Type 0
IsVTypeValue (vtype.Object ty) = IsFieldTypeValue ty
IsVTypeValue _ = Unit {0}

-- the types of a frame
pub record IsFrameValue (frame : FrameAt) : Type 0 where
  pub locals : AllByRecursion IsVTypeValue frame.frame.locals
  pub stack : AllByRecursion IsVTypeValue frame.frame.stack

-- a code
pub record IsCodeValue (code : Code) : Type 0 where
  pub max_stack : code.max_stack < 2 ^ 16
  pub max_locals : code.max_locals < 2 ^ 16
  pub ins : AllByRecursion IsInsValue code.ins
  pub frames : AllByRecursion IsFrameValue code.frames

-- the constant of a field
abbrev pub IsFieldConstant : Constant → Type 0
IsFieldConstant (constant.Int n) = FitsSigned w32 n
IsFieldConstant (constant.Long n) = FitsSigned w64 n
IsFieldConstant (constant.Text units) = Unit {0}

-- a field, whose flags are bounded by those that mean something
pub record IsFieldValue (field : Field) : Type 0 where
  pub ty : IsFieldTypeValue field.ty
  pub constant : IfSome field.constant IsFieldConstant

-- a method
pub record IsMethodValue (m : Method) : Type 0 where
  pub ty : IsMethodTypeValue m.ty
  pub code : IfSome m.code IsCodeValue

-- a class
pub record IsClassValue (c : Class) : Type 0 where
  pub fields : AllByRecursion IsFieldValue c.fields
  pub methods : AllByRecursion IsMethodValue c.methods
