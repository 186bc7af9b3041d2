-- What rows are made of (the project's own: definitions are tried on what HotSpot does).
use Rattle.std.specs.Prelude.{ℕ, ℤ, List, [], ◌∷◌, ◌++◌, Option, Some, None, codes}
use Rattle.jv_base.specs.declared.types.Base.{Base}
use Rattle.jv_base.specs.declared.types.Base.TheVariants as base
use Rattle.jv_base.specs.declared.types.FieldType.{FieldType}
use Rattle.class_model.specs.declared.class.Constant.{Constant}
use Rattle.class_model.specs.declared.class.Field.{Field}
use Rattle.class_model.specs.declared.class.Method.{Method}
use Rattle.class_model.specs.declared.code.Handler.{Handler}
use Rattle.class_model.specs.declared.op.Case.{Case}
use Rattle.class_model.specs.declared.op.Kind.TheVariants as kind
use Rattle.class_model.specs.declared.op.MemberRef.{MemberRef}
use Rattle.class_model.specs.declared.op.Op.{Op}
use Rattle.class_model.specs.declared.op.Op.TheVariants as op
use Rattle.class_pool.specs.rows.LinkRows.{object}
use Rattle.class_run.specs.declared.ended.End.{End}
use Rattle.class_run.specs.declared.ended.Ended.{Ended}
use Rattle.link_check.specs.rows.ProfileRows.{class_type, code_of, init, made_method, no_result, of_class, typed_field}

-- ---- types

-- an array type of so many dimensions
abbrev pub arrays : ℕ → Base → FieldType
arrays dims base = record { dims = dims; base = base }

-- the type long
abbrev pub long : FieldType
long = arrays 0 base.Long

-- the type boolean
abbrev pub boolean : FieldType
boolean = arrays 0 base.Boolean

-- the type char
abbrev pub char : FieldType
char = arrays 0 base.Char

-- the type byte
abbrev pub byte : FieldType
byte = arrays 0 base.Byte

-- the type short
abbrev pub short : FieldType
short = arrays 0 base.Short

-- the type String
abbrev pub string_type : FieldType
string_type = class_type (codes "java/lang/String")

-- ---- members of the library

-- the constructor of Object
abbrev pub object_init : MemberRef
object_init = of_class object init no_result

-- a method of PrintStream
abbrev pub of_stream : List ℕ → List ℕ → MemberRef
of_stream = of_class (codes "java/io/PrintStream")

-- a method of StringBuilder
abbrev pub of_builder : List ℕ → List ℕ → MemberRef
of_builder = of_class (codes "java/lang/StringBuilder")

-- a method of String
abbrev pub of_string : List ℕ → List ℕ → MemberRef
of_string = of_class (codes "java/lang/String")

-- ---- members of a class

-- a constant field
abbrev pub constant_field : ℕ → List ℕ → FieldType → Constant → Field
constant_field flags name ty value = record (typed_field flags name ty) { constant = Some value }

-- a method with code
abbrev pub with_code : ℕ → List ℕ → List FieldType → Option FieldType → List Op → List Handler → Method
with_code flags name args ret ops handlers = made_method flags name args ret [] (Some (code_of ops handlers []))

-- a method without code
abbrev pub without_code : ℕ → List ℕ → List FieldType → Option FieldType → Method
without_code flags name args ret = made_method flags name args ret [] None

-- a constructor without parameters that calls that of a superclass
abbrev pub plain_constructor : ℕ → List ℕ → Method
plain_constructor flags above = with_code flags init [] None
    (op.Load kind.Ref 0 ∷ op.InvokeSpecial (of_class above init no_result) ∷ op.Return None ∷ []) []

-- a row of a table of handlers
abbrev pub handler : ℕ → ℕ → ℕ → Option (List ℕ) → Handler
handler from to entry caught = record { from = from; to = to; entry = entry; caught = caught }

-- a case of a lookupswitch
abbrev pub case : ℤ → ℕ → Case
case key to = record { key = key; to = to }

-- ---- what is printed, and how a run ends

-- lines, each with its end
abbrev pub lines : List (List ℕ) → List ℕ
lines [] = []
lines (line ∷ rest) = line ++ 10 ∷ lines rest

-- how it ends, and what it has printed
abbrev pub ends : List ℕ → End → Ended
ends printed how = record { printed = printed; how = how }
