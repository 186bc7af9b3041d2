-- What a few small programs do, which is computed (the project's own: definitions are tried on programs).
use Rattle.std.specs.Prelude.{◌≡◌, ℕ, pos, negsuc, Bool, true, false, List, [], ◌∷◌, Option, Some, None, codes}
use Rattle.std.specs.Prelude.{slice_get}
use Rattle.std.specs.Option.{option_map}
use Rattle.jv_base.specs.declared.types.Base.TheVariants as base
use Rattle.jv_base.specs.declared.types.FieldType.{FieldType}
use Rattle.class_model.specs.declared.class.Class.{Class}
use Rattle.class_model.specs.declared.class.Constant.TheVariants as constant
use Rattle.class_model.specs.declared.class.Method.{Method}
use Rattle.class_model.specs.declared.code.Handler.{Handler}
use Rattle.class_model.specs.declared.op.ArithOp.TheVariants as arith
use Rattle.class_model.specs.declared.op.Cond.TheVariants as cond
use Rattle.class_model.specs.declared.op.Elem.TheVariants as elem
use Rattle.class_model.specs.declared.op.Kind.TheVariants as kind
use Rattle.class_model.specs.declared.op.MemberRef.{MemberRef}
use Rattle.class_model.specs.declared.op.Num.TheVariants as num
use Rattle.class_model.specs.declared.op.Op.{Op}
use Rattle.class_model.specs.declared.op.Op.TheVariants as op
use Rattle.class_pool.specs.rows.LinkRows.{int_field, object, plain_class}
use Rattle.link_check.specs.rows.ProfileRows.{code_of, init, made_method, no_result, of_class, running}
use Rattle.link_check.specs.rows.ProfileRows.{system_out}
use Rattle.jvm_model.specs.Heap.{class_of, string}
use Rattle.jvm_model.specs.State.{HasReturned, HasThrown, State, Status, status}
use Rattle.jvm_model.specs.Step.{run, start}
use Rattle.jvm_model.specs.Types.{class_type}
use Rattle.jvm_model.specs.Value.{Int, Value}
use Rattle.set_view.specs.ViewOf.{is_startable, view_of}

-- ---- what programs are made of

-- the type int
abbrev pub int : FieldType
int = record { dims = 0; base = base.Int }

-- a static method with code; its flags are public and static
abbrev pub static_method : List ℕ → List FieldType → Option FieldType → List Op → List Handler → Method
static_method name args ret ops handlers = made_method 0x0009 name args ret [] (Some (code_of ops handlers []))

-- a constructor that calls that of its superclass
abbrev pub constructor_above : List ℕ → Method
constructor_above above = running 0x0001 init
    (op.Load kind.Ref 0 ∷ op.InvokeSpecial (of_class above init no_result) ∷ op.Return None ∷ [])

-- a class initialisation method
abbrev pub initialiser : List Op → Method
initialiser ops = running 0x0008 (codes "<clinit>") ops

-- a public class
abbrev pub class : List ℕ → List ℕ → List Method → Class
class name above methods = plain_class 0x0021 name above [] [] methods

-- what prints an int
abbrev pub print_int : MemberRef
print_int = of_class (codes "java/io/PrintStream") (codes "print") (codes "(I)V")

-- what prints an int, and ends its line
abbrev pub print_line : MemberRef
print_line = of_class (codes "java/io/PrintStream") (codes "println") (codes "(I)V")

-- the state after so many steps of a static method of a class
abbrev pub after : List Class → List ℕ → List ℕ → List ℕ → List Value → ℕ → State
after classes name method descriptor args n =
    run (view_of classes)
    (start (view_of classes) (record { class = name; name = method; descriptor = descriptor }) [] args)
    n

-- the class of what is thrown
abbrev pub thrown_in : State → Status → Option (List ℕ)
thrown_in s (HasThrown n) = option_map class_of (slice_get s.world.heap n)
thrown_in s _ = None

-- the same of a state
abbrev pub thrown : State → Option (List ℕ)
thrown s = thrown_in s (status s)

-- the run has returned this
abbrev pub Returns : State → Value → Type 0
Returns s v = status s ≡ HasReturned (Some v)

-- the run has thrown an object of this class
abbrev pub ThrowsA : State → List ℕ → Type 0
ThrowsA s name = thrown s ≡ Some name

-- ---- hash codes: static int f() { return "Aa".hashCode(); } and the same of "BB"

-- String.hashCode
abbrev pub hash_code : MemberRef
hash_code = of_class (codes "java/lang/String") (codes "hashCode") (codes "()I")

-- the class
abbrev pub hashing : List Class
hashing = class (codes "demo/Hash") object
    (static_method (codes "f") [] (Some int)
    (op.PushText (codes "Aa") ∷ op.InvokeVirtual hash_code ∷ op.Return (Some kind.Int) ∷ []) []
    ∷ static_method (codes "g") [] (Some int)
    (op.PushText (codes "BB") ∷ op.InvokeVirtual hash_code ∷ op.Return (Some kind.Int) ∷ []) [] ∷ []) ∷ []

-- each returns 2112 after five steps
abbrev pub HashCodes : Type 0
HashCodes = Returns (after hashing (codes "demo/Hash") (codes "f") (codes "()I") [] 5) (Int (pos 2112))
    × Returns (after hashing (codes "demo/Hash") (codes "g") (codes "()I") [] 5) (Int (pos 2112))

-- ---- a loop: static void f(int n) { while (n != 0) { System.out.println(n); n--; } }

-- the class
abbrev pub counting : List Class
counting = class (codes "demo/Loop") object
    (static_method (codes "f") (int ∷ []) None
    (op.Load kind.Int 0 ∷ op.IfZero cond.Eq 7 ∷ op.GetStatic system_out ∷ op.Load kind.Int 0
    ∷ op.InvokeVirtual print_line ∷ op.Inc 0 (negsuc 0) ∷ op.Goto 0 ∷ op.Return None ∷ []) [] ∷ []) ∷ []

-- it prints 3, 2 and 1, each with the end of its line, and returns nothing; before the last step it hasn't
abbrev pub Loop : Type 0
Loop = ((after counting (codes "demo/Loop") (codes "f") (codes "(I)V") (Int (pos 3) ∷ []) 26).world.printed
    ≡ 51 ∷ 10 ∷ 50 ∷ 10 ∷ 49 ∷ 10 ∷ [])
    × (status (after counting (codes "demo/Loop") (codes "f") (codes "(I)V") (Int (pos 3) ∷ []) 26) ≡ HasReturned None)

-- ---- calls: static int f(int n) { return n == 0 ? 1 : n * f(n - 1); }

-- the class
abbrev pub factorial : List Class
factorial = class (codes "demo/Call") object
    (static_method (codes "f") (int ∷ []) (Some int)
    (op.Load kind.Int 0 ∷ op.IfZero cond.Ne 4 ∷ op.PushInt (pos 1) ∷ op.Return (Some kind.Int)
    ∷ op.Load kind.Int 0 ∷ op.Load kind.Int 0 ∷ op.PushInt (pos 1) ∷ op.Arith arith.Sub num.Int
    ∷ op.InvokeStatic (of_class (codes "demo/Call") (codes "f") (codes "(I)I")) ∷ op.Arith arith.Mul num.Int
    ∷ op.Return (Some kind.Int) ∷ []) [] ∷ []) ∷ []

-- of 5 it is 120
abbrev pub Calls : Type 0
Calls = Returns (after factorial (codes "demo/Call") (codes "f") (codes "(I)I") (Int (pos 5) ∷ []) 51) (Int (pos 120))

-- ---- an exception through three frames: a calls b, which calls c, which divides by zero; b catches a
-- NullPointerException alone, and a any RuntimeException

-- a call of one of them
abbrev pub to_method : List ℕ → Op
to_method name = op.InvokeStatic (of_class (codes "demo/Throw") name (codes "()I"))

-- the class
abbrev pub throwing : List Class
throwing = class (codes "demo/Throw") object
    (static_method (codes "a") [] (Some int)
    (to_method (codes "b") ∷ op.Return (Some kind.Int) ∷ op.Pop ∷ op.PushInt (pos 7) ∷ op.Return (Some kind.Int) ∷ [])
    (record { from = 0; to = 2; entry = 2; caught = Some (codes "java/lang/RuntimeException") } ∷ [])
    ∷ static_method (codes "b") [] (Some int)
    (to_method (codes "c") ∷ op.Return (Some kind.Int) ∷ op.Pop ∷ op.PushInt (pos 8) ∷ op.Return (Some kind.Int) ∷ [])
    (record { from = 0; to = 2; entry = 2; caught = Some (codes "java/lang/NullPointerException") } ∷ [])
    ∷ static_method (codes "c") [] (Some int)
    (op.PushInt (pos 1) ∷ op.PushInt (pos 0) ∷ op.Arith arith.Div num.Int ∷ op.Return (Some kind.Int) ∷ []) []
    ∷ []) ∷ []

-- a catches it; b and c alone leave it
abbrev pub Exceptions : Type 0
Exceptions = Returns (after throwing (codes "demo/Throw") (codes "a") (codes "()I") [] 13) (Int (pos 7))
    × ThrowsA (after throwing (codes "demo/Throw") (codes "b") (codes "()I") [] 9)
    (codes "java/lang/ArithmeticException")
    × ThrowsA (after throwing (codes "demo/Throw") (codes "c") (codes "()I") [] 7)
    (codes "java/lang/ArithmeticException")

-- ---- an initialisation that fails: that of demo.Bad divides by zero; demo.User calls its f twice, and catches what
-- the first call throws

-- the call
abbrev pub call_bad : Op
call_bad = op.InvokeStatic (of_class (codes "demo/Bad") (codes "f") no_result)

-- the classes
abbrev pub failing : List Class
failing = class (codes "demo/Bad") object
    (initialiser (op.PushInt (pos 1) ∷ op.PushInt (pos 0) ∷ op.Arith arith.Div num.Int ∷ op.Pop ∷ op.Return None ∷ [])
    ∷ static_method (codes "f") [] None (op.Return None ∷ []) [] ∷ [])
    ∷ class (codes "demo/User") object
    (static_method (codes "g") [] None (call_bad ∷ op.Return None ∷ op.Pop ∷ call_bad ∷ op.Return None ∷ [])
    (record { from = 0; to = 1; entry = 2; caught = Some (codes "java/lang/Throwable") } ∷ []) ∷ []) ∷ []

-- the first use throws an ExceptionInInitializerError, and a later one a NoClassDefFoundError
abbrev pub FailedInitialisation : Type 0
FailedInitialisation =
    ThrowsA (after failing (codes "demo/Bad") (codes "f") no_result [] 9)
    (codes "java/lang/ExceptionInInitializerError")
    × ThrowsA (after failing (codes "demo/User") (codes "g") no_result [] 15) (codes "java/lang/NoClassDefFoundError")

-- ---- order of initialisation: demo.Up prints 1, demo.Down, below it, prints 2, and its static field of 3 begins with
-- its constant

-- a number is printed, and nothing returned
abbrev pub prints : ℕ → List Op
prints n = op.GetStatic system_out ∷ op.PushInt (pos n) ∷ op.InvokeVirtual print_int ∷ op.Return None ∷ []

-- the classes
abbrev pub initialising : List Class
initialising = class (codes "demo/Up") object (initialiser (prints 1) ∷ [])
    ∷ plain_class 0x0021 (codes "demo/Down") (codes "demo/Up") []
    (record (int_field 0x0019 (codes "x")) { constant = Some (constant.Int (pos 3)) } ∷ [])
    (initialiser (prints 2) ∷ [])
    ∷ class (codes "demo/Main") object
    (static_method (codes "f") [] (Some int)
    (op.GetStatic (of_class (codes "demo/Down") (codes "x") (codes "I")) ∷ op.Return (Some kind.Int) ∷ []) [] ∷ []) ∷ []

-- 1 is printed before 2, and 3 is returned
abbrev pub Initialisation : Type 0
Initialisation =
    ((after initialising (codes "demo/Main") (codes "f") (codes "()I") [] 19).world.printed ≡ codes "12")
    × Returns (after initialising (codes "demo/Main") (codes "f") (codes "()I") [] 19) (Int (pos 3))

-- ---- selection: demo.Under overrides m of demo.Over, which returns 1, with one that returns 2; a call of Over.m on an
-- Under, through a variable of type Over

-- the method m that returns a number
abbrev pub returns_int : ℕ → Method
returns_int n = made_method 0x0001 (codes "m") [] (Some int) [] (Some (code_of
    (op.PushInt (pos n) ∷ op.Return (Some kind.Int) ∷ []) [] []))

-- it is called on a new object of a class
abbrev pub calls_on : List ℕ → List Op
calls_on name = op.New name ∷ op.Dup ∷ op.InvokeSpecial (of_class name init no_result)
    ∷ op.InvokeVirtual (of_class (codes "demo/Over") (codes "m") (codes "()I")) ∷ op.Return (Some kind.Int) ∷ []

-- the classes
abbrev pub overriding : List Class
overriding = class (codes "demo/Over") object (constructor_above object ∷ returns_int 1 ∷ [])
    ∷ class (codes "demo/Under") (codes "demo/Over") (constructor_above (codes "demo/Over") ∷ returns_int 2 ∷ [])
    ∷ class (codes "demo/Main") object
    (static_method (codes "f") [] (Some int) (calls_on (codes "demo/Under")) []
    ∷ static_method (codes "g") [] (Some int) (calls_on (codes "demo/Over")) [] ∷ []) ∷ []

-- on an Under it returns 2, on an Over 1
abbrev pub Selection : Type 0
Selection = Returns (after overriding (codes "demo/Main") (codes "f") (codes "()I") [] 22) (Int (pos 2))
    × Returns (after overriding (codes "demo/Main") (codes "g") (codes "()I") [] 17) (Int (pos 1))

-- ---- arrays: the component at 1 of a new int[2][3] has the length 3, and holds a byte that is narrowed

-- arrays of bytes
abbrev pub array_type : ℕ → FieldType
array_type n = record { dims = n; base = base.Byte }

-- the class
abbrev pub arrays : List Class
arrays = class (codes "demo/Array") object
    (static_method (codes "f") [] (Some int)
    (op.PushInt (pos 2) ∷ op.PushInt (pos 3) ∷ op.MultiNewArray (array_type 2) 2 ∷ op.PushInt (pos 1)
    ∷ op.ALoad elem.Ref ∷ op.Dup ∷ op.PushInt (pos 2) ∷ op.PushInt (pos 300) ∷ op.AStore elem.Byte
    ∷ op.Dup ∷ op.ArrayLength ∷ op.Swap ∷ op.PushInt (pos 2) ∷ op.ALoad elem.Byte ∷ op.Arith arith.Add num.Int
    ∷ op.Return (Some kind.Int) ∷ []) [] ∷ []) ∷ []

-- 3, and 44, which is what a byte holds of 300
abbrev pub Arrays : Type 0
Arrays = Returns (after arrays (codes "demo/Array") (codes "f") (codes "()I") [] 18) (Int (pos 47))

-- ---- where a run may begin: static void f(int, String[][]) of demo.Entry, but none of its static void g(Entry),
-- static void h(float), class initialisation method and constructor, and no method of the library

-- the class
abbrev pub beginning : List Class
beginning = class (codes "demo/Entry") object
    (static_method (codes "f") (int ∷ record { dims = 2; base = base.Class string } ∷ []) None (op.Return None ∷ []) []
    ∷ static_method (codes "g") (class_type (codes "demo/Entry") ∷ []) None (op.Return None ∷ []) []
    ∷ static_method (codes "h") (record { dims = 0; base = base.Float } ∷ []) None (op.Return None ∷ []) []
    ∷ initialiser (op.Return None ∷ []) ∷ constructor_above object ∷ []) ∷ []

-- a run may begin with a method of a class
abbrev pub may_begin : List ℕ → List ℕ → List ℕ → Bool
may_begin name method descriptor =
    is_startable beginning (record { class = name; name = method; descriptor = descriptor })

-- with f alone
abbrev pub Startable : Type 0
Startable = (may_begin (codes "demo/Entry") (codes "f") (codes "(I[[Ljava/lang/String;)V") ≡ true)
    × (may_begin (codes "demo/Entry") (codes "g") (codes "(Ldemo/Entry;)V") ≡ false)
    × (may_begin (codes "demo/Entry") (codes "h") (codes "(F)V") ≡ false)
    × (may_begin (codes "demo/Entry") (codes "<clinit>") (codes "()V") ≡ false)
    × (may_begin (codes "demo/Entry") (codes "<init>") (codes "()V") ≡ false)
    × (may_begin string (codes "valueOf") (codes "(I)Ljava/lang/String;") ≡ false)
