-- The types of the methods of the library, row by row: the class of the receiver, the parameters and the result (Java
-- SE
-- 8 API). What a row does is said in `Library` of `jvm_model`; that the descriptors by which a program calls them tell
-- these types is a fact on the library's table.
use Rattle.std.specs.Prelude.{◌≡◌, ℕ, List, [], ◌∷◌, Option, Some, None, codes}
use Rattle.jv_base.specs.declared.types.Base.{Base}
use Rattle.jv_base.specs.declared.types.Base.TheVariants as base
use Rattle.jv_base.specs.declared.types.FieldType.{FieldType}
use Rattle.jv_base.specs.declared.types.MethodType.{MethodType}
use Rattle.jvm_model.specs.Heap.{string, string_builder}
use Rattle.jvm_model.specs.Library.{Told, AsInt, AsLong, AsChar, AsBoolean, AsString}
use Rattle.jvm_model.specs.Library.{Row, ObjectInit, ObjectEquals, StringLength, StringCharAt, StringEquals}
use Rattle.jvm_model.specs.Library.{StringHashCode, StringIsEmpty, StringFrom, StringBetween, StringCompareTo}
use Rattle.jvm_model.specs.Library.{StringToString, StringValueOf, BuilderInit, BuilderInitWith, BuilderAppend}
use Rattle.jvm_model.specs.Library.{BuilderLength, BuilderToString, Print, PrintLine, EndLine, ThrowableInit}
use Rattle.jvm_model.specs.Library.{ThrowableInitWith, ThrowableInitFrom, GetMessage, GetCause}
use Rattle.type_verifier.specs.Assignable.{class_type}

-- a type without dimensions (JVMS 4.3.2)
abbrev pub plain : Base → FieldType
plain b = record { dims = 0; base = b }

-- the classes of receivers
abbrev pub object : List ℕ
object = codes "java/lang/Object"

abbrev pub print_stream : List ℕ
print_stream = codes "java/io/PrintStream"

abbrev pub exception : List ℕ
exception = codes "java/lang/Throwable"

-- the type of what is told as a text
abbrev pub told : Told → FieldType
told AsInt = plain base.Int
told AsLong = plain base.Long
told AsChar = plain base.Char
told AsBoolean = plain base.Boolean
told AsString = class_type string

-- the class of the receiver; a static method has none
abbrev pub row_class : Row → Option (List ℕ)
row_class ObjectInit = Some object
row_class ObjectEquals = Some object
row_class StringLength = Some string
row_class StringCharAt = Some string
row_class StringEquals = Some string
row_class StringHashCode = Some string
row_class StringIsEmpty = Some string
row_class StringFrom = Some string
row_class StringBetween = Some string
row_class StringCompareTo = Some string
row_class StringToString = Some string
row_class (StringValueOf ty) = None
row_class BuilderInit = Some string_builder
row_class BuilderInitWith = Some string_builder
row_class (BuilderAppend ty) = Some string_builder
row_class BuilderLength = Some string_builder
row_class BuilderToString = Some string_builder
row_class (Print ty) = Some print_stream
row_class (PrintLine ty) = Some print_stream
row_class EndLine = Some print_stream
row_class ThrowableInit = Some exception
row_class ThrowableInitWith = Some exception
row_class ThrowableInitFrom = Some exception
row_class GetMessage = Some exception
row_class GetCause = Some exception

-- the parameters
abbrev pub row_parameters : Row → List FieldType
row_parameters ObjectInit = []
row_parameters ObjectEquals = class_type object ∷ []
row_parameters StringLength = []
row_parameters StringCharAt = plain base.Int ∷ []
row_parameters StringEquals = class_type object ∷ []
row_parameters StringHashCode = []
row_parameters StringIsEmpty = []
row_parameters StringFrom = plain base.Int ∷ []
row_parameters StringBetween = plain base.Int ∷ plain base.Int ∷ []
row_parameters StringCompareTo = class_type string ∷ []
row_parameters StringToString = []
row_parameters (StringValueOf ty) = told ty ∷ []
row_parameters BuilderInit = []
row_parameters BuilderInitWith = class_type string ∷ []
row_parameters (BuilderAppend ty) = told ty ∷ []
row_parameters BuilderLength = []
row_parameters BuilderToString = []
row_parameters (Print ty) = told ty ∷ []
row_parameters (PrintLine ty) = told ty ∷ []
row_parameters EndLine = []
row_parameters ThrowableInit = []
row_parameters ThrowableInitWith = class_type string ∷ []
row_parameters ThrowableInitFrom = class_type string ∷ class_type exception ∷ []
row_parameters GetMessage = []
row_parameters GetCause = []

-- the result, if there is one
abbrev pub row_result : Row → Option FieldType
row_result ObjectInit = None
row_result ObjectEquals = Some (plain base.Boolean)
row_result StringLength = Some (plain base.Int)
row_result StringCharAt = Some (plain base.Char)
row_result StringEquals = Some (plain base.Boolean)
row_result StringHashCode = Some (plain base.Int)
row_result StringIsEmpty = Some (plain base.Boolean)
row_result StringFrom = Some (class_type string)
row_result StringBetween = Some (class_type string)
row_result StringCompareTo = Some (plain base.Int)
row_result StringToString = Some (class_type string)
row_result (StringValueOf ty) = Some (class_type string)
row_result BuilderInit = None
row_result BuilderInitWith = None
row_result (BuilderAppend ty) = Some (class_type string_builder)
row_result BuilderLength = Some (plain base.Int)
row_result BuilderToString = Some (class_type string)
row_result (Print ty) = None
row_result (PrintLine ty) = None
row_result EndLine = None
row_result ThrowableInit = None
row_result ThrowableInitWith = None
row_result ThrowableInitFrom = None
row_result GetMessage = Some (class_type string)
row_result GetCause = Some (class_type exception)

-- the row is a method with this receiver and of this type
pub record IsRowOf (row : Row) (receiver : Option (List ℕ)) (ty : MethodType) : Type 0 where
  pub class : row_class row ≡ receiver
  pub parameters : ty.args ≡ row_parameters row
  pub result : ty.ret ≡ row_result row
