-- The classes of the Java library that a program may use, and their members, by name and descriptor (JVMS 4.2, 4.3;
-- which ones is the project's own, of those of the Java SE 8 API). All are public, no member is final, and the methods
-- of an interface are abstract. Classes that a JDK has between these are left out, as above PrintStream; so are the
-- classes and members that stand nowhere here. A class stands behind its supertypes.
use Rattle.std.specs.Prelude.{ℕ, Bool, true, false, List, [], ◌∷◌, Option, Some, None, codes}
use Rattle.lib_table.specs.declared.class.LibKind.{LibKind}
use Rattle.lib_table.specs.declared.class.LibKind.TheVariants.{Interface, Final, Open}
use Rattle.lib_table.specs.declared.member.Role.{Role}
use Rattle.lib_table.specs.declared.member.Role.TheVariants.{Callable, KnownOnly, NoOverride}

-- a field or a method (JVMS 4.5, 4.6)
pub record LibraryMember : Type 0 where
  pub name : List ℕ
  pub descriptor : List ℕ
  pub is_method : Bool
  pub is_static : Bool
  pub role : Role

-- a class or an interface; the superclass of an interface is Object, as in a class file (JVMS 4.1)
pub record LibraryClass : Type 0 where
  pub name : List ℕ
  pub kind : LibKind
  pub super_name : Option (List ℕ)
  pub interfaces : List (List ℕ)
  pub members : List LibraryMember

-- a class or an interface by its parts (JVMS 4.1)
abbrev pub class : List ℕ → LibKind → Option (List ℕ) → List (List ℕ) → List LibraryMember → LibraryClass
class name kind super_name interfaces members =
    record {
      name = name;
      kind = kind;
      super_name = super_name;
      interfaces = interfaces;
      members = members;
    }

-- a method that isn't static (JVMS 4.6)
abbrev pub method : Role → List ℕ → List ℕ → LibraryMember
method role name descriptor =
    record { name = name; descriptor = descriptor; is_method = true; is_static = false; role = role }

-- an instance initialisation method, which a program may call (JVMS 2.9)
abbrev pub constructor : List ℕ → LibraryMember
constructor descriptor = method Callable (codes "<init>") descriptor

-- a static method, which a program may call (JVMS 4.6)
abbrev pub static_method : List ℕ → List ℕ → LibraryMember
static_method name descriptor =
    record { name = name; descriptor = descriptor; is_method = true; is_static = true; role = Callable }

-- a static field, which a program may name (JVMS 4.5)
abbrev pub static_field : List ℕ → List ℕ → LibraryMember
static_field name descriptor =
    record { name = name; descriptor = descriptor; is_method = false; is_static = true; role = Callable }

-- of an exception that is made without a message, or with one (JVMS 2.9)
abbrev pub two_constructors : List LibraryMember
two_constructors = constructor (codes "()V") ∷ constructor (codes "(Ljava/lang/String;)V") ∷ []

-- the same, and with a message and a cause (JVMS 2.9)
abbrev pub three_constructors : List LibraryMember
three_constructors =
    constructor (codes "()V")
    ∷ constructor (codes "(Ljava/lang/String;)V")
    ∷ constructor (codes "(Ljava/lang/String;Ljava/lang/Throwable;)V")
    ∷ []

-- the classes that others extend or implement (JVMS 4.2.1)
abbrev pub object : List ℕ
object = codes "java/lang/Object"

abbrev pub comparable : List ℕ
comparable = codes "java/lang/Comparable"

abbrev pub char_sequence : List ℕ
char_sequence = codes "java/lang/CharSequence"

abbrev pub serializable : List ℕ
serializable = codes "java/io/Serializable"

abbrev pub throwable : List ℕ
throwable = codes "java/lang/Throwable"

abbrev pub exception : List ℕ
exception = codes "java/lang/Exception"

abbrev pub error : List ℕ
error = codes "java/lang/Error"

abbrev pub runtime_exception : List ℕ
runtime_exception = codes "java/lang/RuntimeException"

abbrev pub index_out_of_bounds : List ℕ
index_out_of_bounds = codes "java/lang/IndexOutOfBoundsException"

abbrev pub linkage_error : List ℕ
linkage_error = codes "java/lang/LinkageError"

abbrev pub incompatible_change : List ℕ
incompatible_change = codes "java/lang/IncompatibleClassChangeError"

-- every class, its members by their number (the project's own: what a program may use)
unfoldable pub library : List LibraryClass
library =
    class object Open None [] (
    constructor (codes "()V")
    ∷ method Callable (codes "equals") (codes "(Ljava/lang/Object;)Z")
    ∷ method KnownOnly (codes "hashCode") (codes "()I")
    ∷ method KnownOnly (codes "toString") (codes "()Ljava/lang/String;")
    ∷ method KnownOnly (codes "getClass") (codes "()Ljava/lang/Class;")
    ∷ method KnownOnly (codes "clone") (codes "()Ljava/lang/Object;")
    ∷ method KnownOnly (codes "notify") (codes "()V")
    ∷ method KnownOnly (codes "notifyAll") (codes "()V")
    ∷ method KnownOnly (codes "wait") (codes "()V")
    ∷ method KnownOnly (codes "wait") (codes "(J)V")
    ∷ method KnownOnly (codes "wait") (codes "(JI)V")
    ∷ method NoOverride (codes "finalize") (codes "()V")
    ∷ [])
    ∷ class (codes "java/lang/Runnable") Interface (Some object) [] (
    method Callable (codes "run") (codes "()V")
    ∷ [])
    ∷ class comparable Interface (Some object) [] (
    method KnownOnly (codes "compareTo") (codes "(Ljava/lang/Object;)I")
    ∷ [])
    ∷ class char_sequence Interface (Some object) [] (
    method KnownOnly (codes "length") (codes "()I")
    ∷ method KnownOnly (codes "charAt") (codes "(I)C")
    ∷ method KnownOnly (codes "toString") (codes "()Ljava/lang/String;")
    ∷ [])
    ∷ class (codes "java/lang/Cloneable") Interface (Some object) [] []
    ∷ class serializable Interface (Some object) [] []
    ∷ class (codes "java/lang/String") Final (Some object) (comparable ∷ char_sequence ∷ serializable ∷ []) (
    method Callable (codes "length") (codes "()I")
    ∷ method Callable (codes "charAt") (codes "(I)C")
    ∷ method Callable (codes "equals") (codes "(Ljava/lang/Object;)Z")
    ∷ method Callable (codes "hashCode") (codes "()I")
    ∷ method Callable (codes "isEmpty") (codes "()Z")
    ∷ method Callable (codes "substring") (codes "(I)Ljava/lang/String;")
    ∷ method Callable (codes "substring") (codes "(II)Ljava/lang/String;")
    ∷ method Callable (codes "compareTo") (codes "(Ljava/lang/String;)I")
    ∷ method Callable (codes "toString") (codes "()Ljava/lang/String;")
    ∷ static_method (codes "valueOf") (codes "(I)Ljava/lang/String;")
    ∷ static_method (codes "valueOf") (codes "(J)Ljava/lang/String;")
    ∷ static_method (codes "valueOf") (codes "(C)Ljava/lang/String;")
    ∷ static_method (codes "valueOf") (codes "(Z)Ljava/lang/String;")
    ∷ [])
    ∷ class (codes "java/lang/StringBuilder") Final (Some object) (char_sequence ∷ serializable ∷ []) (
    constructor (codes "()V")
    ∷ constructor (codes "(Ljava/lang/String;)V")
    ∷ method Callable (codes "append") (codes "(I)Ljava/lang/StringBuilder;")
    ∷ method Callable (codes "append") (codes "(J)Ljava/lang/StringBuilder;")
    ∷ method Callable (codes "append") (codes "(C)Ljava/lang/StringBuilder;")
    ∷ method Callable (codes "append") (codes "(Z)Ljava/lang/StringBuilder;")
    ∷ method Callable (codes "append") (codes "(Ljava/lang/String;)Ljava/lang/StringBuilder;")
    ∷ method Callable (codes "length") (codes "()I")
    ∷ method Callable (codes "toString") (codes "()Ljava/lang/String;")
    ∷ [])
    ∷ class (codes "java/lang/System") Final (Some object) [] (
    static_field (codes "out") (codes "Ljava/io/PrintStream;")
    ∷ [])
    ∷ class (codes "java/io/PrintStream") Open (Some object) [] (
    method Callable (codes "print") (codes "(I)V")
    ∷ method Callable (codes "print") (codes "(J)V")
    ∷ method Callable (codes "print") (codes "(C)V")
    ∷ method Callable (codes "print") (codes "(Z)V")
    ∷ method Callable (codes "print") (codes "(Ljava/lang/String;)V")
    ∷ method Callable (codes "println") (codes "(I)V")
    ∷ method Callable (codes "println") (codes "(J)V")
    ∷ method Callable (codes "println") (codes "(C)V")
    ∷ method Callable (codes "println") (codes "(Z)V")
    ∷ method Callable (codes "println") (codes "(Ljava/lang/String;)V")
    ∷ method Callable (codes "println") (codes "()V")
    ∷ [])
    ∷ class throwable Open (Some object) (serializable ∷ []) (
    constructor (codes "()V")
    ∷ constructor (codes "(Ljava/lang/String;)V")
    ∷ constructor (codes "(Ljava/lang/String;Ljava/lang/Throwable;)V")
    ∷ method Callable (codes "getMessage") (codes "()Ljava/lang/String;")
    ∷ method Callable (codes "getCause") (codes "()Ljava/lang/Throwable;")
    ∷ method KnownOnly (codes "toString") (codes "()Ljava/lang/String;")
    ∷ method KnownOnly (codes "getLocalizedMessage") (codes "()Ljava/lang/String;")
    ∷ method KnownOnly (codes "printStackTrace") (codes "()V")
    ∷ method KnownOnly (codes "initCause") (codes "(Ljava/lang/Throwable;)Ljava/lang/Throwable;")
    ∷ method NoOverride (codes "fillInStackTrace") (codes "()Ljava/lang/Throwable;")
    ∷ [])
    ∷ class exception Open (Some throwable) [] three_constructors
    ∷ class error Open (Some throwable) [] three_constructors
    ∷ class runtime_exception Open (Some exception) [] three_constructors
    ∷ class (codes "java/lang/ArithmeticException") Open (Some runtime_exception) [] two_constructors
    ∷ class (codes "java/lang/ArrayStoreException") Open (Some runtime_exception) [] two_constructors
    ∷ class (codes "java/lang/ClassCastException") Open (Some runtime_exception) [] two_constructors
    ∷ class (codes "java/lang/NegativeArraySizeException") Open (Some runtime_exception) [] two_constructors
    ∷ class (codes "java/lang/NullPointerException") Open (Some runtime_exception) [] two_constructors
    ∷ class index_out_of_bounds Open (Some runtime_exception) [] two_constructors
    ∷ class (codes "java/lang/ArrayIndexOutOfBoundsException") Open (Some index_out_of_bounds) [] two_constructors
    ∷ class (codes "java/lang/StringIndexOutOfBoundsException") Open (Some index_out_of_bounds) [] two_constructors
    ∷ class (codes "java/lang/IllegalArgumentException") Open (Some runtime_exception) [] three_constructors
    ∷ class (codes "java/lang/IllegalStateException") Open (Some runtime_exception) [] three_constructors
    ∷ class (codes "java/lang/UnsupportedOperationException") Open (Some runtime_exception) [] three_constructors
    ∷ class (codes "java/lang/NumberFormatException") Open
    (Some (codes "java/lang/IllegalArgumentException")) [] two_constructors
    ∷ class linkage_error Open (Some error) [] []
    ∷ class (codes "java/lang/NoClassDefFoundError") Open (Some linkage_error) [] []
    ∷ class (codes "java/lang/ExceptionInInitializerError") Open (Some linkage_error) [] []
    ∷ class incompatible_change Open (Some linkage_error) [] []
    ∷ class (codes "java/lang/IllegalAccessError") Open (Some incompatible_change) [] []
    ∷ class (codes "java/lang/AbstractMethodError") Open (Some incompatible_change) [] []
    ∷ []
