-- The exceptions that the machine and the calls of the library make themselves. They carry no message (the project's
-- own).
use Rattle.std.specs.Prelude.{ℕ, List, codes}

-- Division by zero; a null reference; an index outside an array; a negative size; a component of a wrong class; a
-- wrong class in a cast; an index outside a text (JVMS 6.5; Java SE 8 API). Then the errors of initialisation
-- (JVMS 5.5) and of calls (JVMS 6.5.invokeinterface, 6.5.invokevirtual).
pub data Exception : Type 0 where
  Arithmetic : Exception
  NullPointer : Exception
  ArrayIndex : Exception
  NegativeSize : Exception
  ArrayStore : Exception
  ClassCast : Exception
  TextIndex : Exception
  NoClassDef : Exception
  InInitializer : Exception
  IncompatibleChange : Exception
  IllegalAccess : Exception
  AbstractMethod : Exception

-- the class of each
abbrev pub exception_class : Exception → List ℕ
exception_class Arithmetic = codes "java/lang/ArithmeticException"
exception_class NullPointer = codes "java/lang/NullPointerException"
exception_class ArrayIndex = codes "java/lang/ArrayIndexOutOfBoundsException"
exception_class NegativeSize = codes "java/lang/NegativeArraySizeException"
exception_class ArrayStore = codes "java/lang/ArrayStoreException"
exception_class ClassCast = codes "java/lang/ClassCastException"
exception_class TextIndex = codes "java/lang/StringIndexOutOfBoundsException"
exception_class NoClassDef = codes "java/lang/NoClassDefFoundError"
exception_class InInitializer = codes "java/lang/ExceptionInInitializerError"
exception_class IncompatibleChange = codes "java/lang/IncompatibleClassChangeError"
exception_class IllegalAccess = codes "java/lang/IllegalAccessError"
exception_class AbstractMethod = codes "java/lang/AbstractMethodError"
