-- Exceptions and rows of the code as those of the machine (Java SE 8 API).
use Rattle.jvm_model.specs.Exceptions.{Exception as Thrown}
use Rattle.jvm_model.specs.Exceptions as thrown
use Rattle.jvm_model.specs.Library.{Row as Method, Told as Telling}
use Rattle.jvm_model.specs.Library as method
use Rattle.run_library.specs.declared.exception.Exception.{Exception}
use Rattle.run_library.specs.declared.exception.Exception.TheVariants as exception
use Rattle.run_library.specs.declared.row.Row.{Row}
use Rattle.run_library.specs.declared.row.Row.TheVariants as row
use Rattle.run_library.specs.declared.row.Told.{Told}
use Rattle.run_library.specs.declared.row.Told.TheVariants as told

-- the exception
abbrev pub exception_of : Exception → Thrown
exception_of exception.Arithmetic = thrown.Arithmetic
exception_of exception.NullPointer = thrown.NullPointer
exception_of exception.ArrayIndex = thrown.ArrayIndex
exception_of exception.NegativeSize = thrown.NegativeSize
exception_of exception.ArrayStore = thrown.ArrayStore
exception_of exception.ClassCast = thrown.ClassCast
exception_of exception.TextIndex = thrown.TextIndex
exception_of exception.NoClassDef = thrown.NoClassDef
exception_of exception.InInitializer = thrown.InInitializer
exception_of exception.IncompatibleChange = thrown.IncompatibleChange
exception_of exception.IllegalAccess = thrown.IllegalAccess
exception_of exception.AbstractMethod = thrown.AbstractMethod

-- the type of what is told
abbrev pub type_of : Told → Telling
type_of told.Int = method.AsInt
type_of told.Long = method.AsLong
type_of told.Char = method.AsChar
type_of told.Boolean = method.AsBoolean
type_of told.Text = method.AsString

-- the method
abbrev pub method_of : Row → Method
method_of row.ObjectInit = method.ObjectInit
method_of row.ObjectEquals = method.ObjectEquals
method_of row.StringLength = method.StringLength
method_of row.StringCharAt = method.StringCharAt
method_of row.StringEquals = method.StringEquals
method_of row.StringHashCode = method.StringHashCode
method_of row.StringIsEmpty = method.StringIsEmpty
method_of row.StringFrom = method.StringFrom
method_of row.StringBetween = method.StringBetween
method_of row.StringCompareTo = method.StringCompareTo
method_of row.StringToString = method.StringToString
method_of (row.StringValueOf ty) = method.StringValueOf (type_of ty)
method_of row.BuilderInit = method.BuilderInit
method_of row.BuilderInitWith = method.BuilderInitWith
method_of (row.BuilderAppend ty) = method.BuilderAppend (type_of ty)
method_of row.BuilderLength = method.BuilderLength
method_of row.BuilderToString = method.BuilderToString
method_of (row.Print ty) = method.Print (type_of ty)
method_of (row.PrintLine ty) = method.PrintLine (type_of ty)
method_of row.EndLine = method.EndLine
method_of row.ThrowableInit = method.ThrowableInit
method_of row.ThrowableInitWith = method.ThrowableInitWith
method_of row.ThrowableInitFrom = method.ThrowableInitFrom
method_of row.GetMessage = method.GetMessage
method_of row.GetCause = method.GetCause
