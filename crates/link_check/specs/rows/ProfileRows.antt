-- What the rules for classes give for a few small sets, which are computed (the project's own: definitions are tried on
-- classes). A set breaks one rule, but where several kinds meet; beside it stands one that breaks none.
use Rattle.std.specs.Prelude.{◌≡◌, ℕ, true, false, Bool, List, [], ◌∷◌, map, Option, Some, None, Result, Ok, Err, codes}
use Rattle.jv_base.specs.declared.types.Base.{Base}
use Rattle.jv_base.specs.declared.types.Base.TheVariants as base
use Rattle.jv_base.specs.declared.types.FieldType.{FieldType}
use Rattle.class_model.specs.Flags.{flags_of}
use Rattle.class_model.specs.declared.class.Class.{Class}
use Rattle.class_model.specs.declared.class.Field.{Field}
use Rattle.class_model.specs.declared.class.LeftKind.{LeftKind}
use Rattle.class_model.specs.declared.class.LeftKind.TheVariants as left
use Rattle.class_model.specs.declared.class.Method.{Method}
use Rattle.class_model.specs.declared.code.Code.{Code}
use Rattle.class_model.specs.declared.code.Handler.{Handler}
use Rattle.class_model.specs.declared.code.Ins.{Ins}
use Rattle.class_model.specs.declared.frame.FrameAt.{FrameAt}
use Rattle.class_model.specs.declared.frame.VType.{VType}
use Rattle.class_model.specs.declared.frame.VType.TheVariants as vtype
use Rattle.class_model.specs.declared.op.MemberRef.{MemberRef}
use Rattle.class_model.specs.declared.op.Op.{Op}
use Rattle.class_model.specs.declared.op.Op.TheVariants as op
use Rattle.class_pool.specs.declared.id.ClassId.TheVariants.{Prog, Lib}
use Rattle.class_pool.specs.declared.id.MemberAt.{MemberAt}
use Rattle.class_pool.specs.rows.LinkRows.{int_field, member, object, plain_class, plain_method}
use Rattle.link_check.specs.Links.{resolved_field, resolved_method}
use Rattle.link_check.specs.Profile.{links_checked}
use Rattle.link_check.specs.declared.fault.LinkKind.{LinkKind}
use Rattle.link_check.specs.declared.fault.LinkKind.TheVariants as link
use Rattle.link_check.specs.declared.fault.ProfileFault.{ProfileFault}
use Rattle.link_check.specs.declared.fault.ProfileKind.{ProfileKind}
use Rattle.link_check.specs.declared.fault.ProfileKind.TheVariants.{LeftOutFlag, LeftOutConstant, LeftOutOpcode}
use Rattle.link_check.specs.declared.fault.ProfileKind.TheVariants.{LeftOutType, Unresolved, Inaccessible, WrongKind}
use Rattle.link_check.specs.declared.fault.ProfileKind.TheVariants.{LeftOutMember}

-- ---- types and references

abbrev pub class_type : List ℕ → FieldType
class_type name = record { dims = 0; base = base.Class name }

abbrev pub array_type : Base → FieldType
array_type base = record { dims = 1; base = base }

-- q.Open, q.Hidden and a class that isn't there
abbrev pub open_class : Base
open_class = base.Class (codes "q/Open")

abbrev pub hidden_class : Base
hidden_class = base.Class (codes "q/Hidden")

abbrev pub absent_class : Base
absent_class = base.Class (codes "q/Absent")

abbrev pub open_type : FieldType
open_type = class_type (codes "q/Open")

abbrev pub hidden_type : FieldType
hidden_type = class_type (codes "q/Hidden")

abbrev pub absent_type : FieldType
absent_type = class_type (codes "q/Absent")

abbrev pub float : FieldType
float = record { dims = 0; base = base.Float }

-- a reference to a member of a class
abbrev pub of_class : List ℕ → List ℕ → List ℕ → MemberRef
of_class class name ty = record { class = class_type class; name = name; ty = ty; of_interface = false }

-- an InterfaceMethodref
abbrev pub of_interface : List ℕ → List ℕ → List ℕ → MemberRef
of_interface class name ty = record { class = class_type class; name = name; ty = ty; of_interface = true }

-- a reference to the method clone of an array class, as to that of an interface too
abbrev pub clone_of : Base → Bool → MemberRef
clone_of base as_interface = record {
  class = array_type base;
  name = codes "clone";
  ty = codes "()Ljava/lang/Object;";
  of_interface = as_interface;
}

abbrev pub init : List ℕ
init = codes "<init>"

abbrev pub no_result : List ℕ
no_result = codes "()V"

abbrev pub system_out : MemberRef
system_out = of_class (codes "java/lang/System") (codes "out") (codes "Ljava/io/PrintStream;")

-- of Object, which a program may call
abbrev pub equals : MemberRef
equals = of_class object (codes "equals") (codes "(Ljava/lang/Object;)Z")

-- of Object, which it may not
abbrev pub hash_code : MemberRef
hash_code = of_class object (codes "hashCode") (codes "()I")

-- ---- members and classes

abbrev pub typed_field : ℕ → List ℕ → FieldType → Field
typed_field flags name ty = record {
  flags = flags_of flags;
  name = name;
  ty = ty;
  constant = None;
  synthetic = false;
  deprecated = false;
}

abbrev pub made_method : ℕ → List ℕ → List FieldType → Option FieldType → List (List ℕ) → Option Code → Method
made_method flags name args ret throws code = record {
  flags = flags_of flags;
  name = name;
  ty = record { args = args; ret = ret };
  code = code;
  throws = throws;
  synthetic = false;
  deprecated = false;
}

abbrev pub instruction : Op → Ins
instruction op = record { op = op; line = None }

abbrev pub code_of : List Op → List Handler → List FrameAt → Code
code_of ops handlers frames = record {
  max_stack = 2;
  max_locals = 2;
  ins = map instruction ops;
  handlers = handlers;
  frames = frames;
}

-- a method without parameters and without a result, of these instructions
abbrev pub running : ℕ → List ℕ → List Op → Method
running flags name ops = made_method flags name [] None [] (Some (code_of ops [] []))

-- a class with something left out
abbrev pub noted : Option ℕ → LeftKind → Class → Class
noted place kind c = record c { left_out = Some (record { member = place; kind = kind }) }

-- class p.Main { void run() }, whose code has this instruction
abbrev pub main : Op → Class
main op = plain_class 0x0020 (codes "p/Main") object [] [] (running 0x0000 (codes "run") (op ∷ []) ∷ [])

-- class p.Main extends .. { void run() }
abbrev pub main_below : List ℕ → Op → Class
main_below above op = plain_class 0x0020 (codes "p/Main") above [] [] (running 0x0000 (codes "run") (op ∷ []) ∷ [])

-- public class q.Open { public static int count; public int size; int inner; public void m() public static void s()
-- void own() }
abbrev pub class_open : Class
class_open = plain_class 0x0021 (codes "q/Open") object []
    (int_field 0x0009 (codes "count") ∷ int_field 0x0001 (codes "size") ∷ int_field 0x0000 (codes "inner") ∷ [])
    (plain_method 0x0001 (codes "m") ∷ plain_method 0x0009 (codes "s") ∷ plain_method 0x0000 (codes "own") ∷ [])

-- class q.Hidden { public int x; }
abbrev pub class_hidden : Class
class_hidden = plain_class 0x0020 (codes "q/Hidden") object [] (int_field 0x0001 (codes "x") ∷ []) []

-- public interface q.Able { void a(); }
abbrev pub interface_able : Class
interface_able = plain_class 0x0601 (codes "q/Able") object [] [] (plain_method 0x0401 (codes "a") ∷ [])

-- ---- what is told

abbrev pub taken : Result (Unit {0}) ProfileFault
taken = Ok tt

-- a fault of the class with this number itself
abbrev pub in_class : ℕ → ProfileKind → Result (Unit {0}) ProfileFault
in_class class kind = Err (record { class = class; member = None; kind = kind })

-- a fault of its member with this number
abbrev pub in_member : ℕ → ℕ → ProfileKind → Result (Unit {0}) ProfileFault
in_member class member kind = Err (record { class = class; member = Some member; kind = kind })

-- a fault of the first class's first member
abbrev pub in_run : ProfileKind → Result (Unit {0}) ProfileFault
in_run kind = in_member 0 0 kind

-- ---- resolution

abbrev pub the_set : List Class
the_set = main op.Nop ∷ class_open ∷ class_hidden ∷ interface_able ∷ []

abbrev pub field_of : MemberRef → Result MemberAt LinkKind
field_of r = resolved_field the_set (Prog 0) r

abbrev pub method_of : MemberRef → Result MemberAt LinkKind
method_of r = resolved_method the_set (Prog 0) r

-- a field of a class, one of its package, and one that isn't there; a class that isn't there, and one of its package;
-- the library's
abbrev pub ResolvedFieldRows : Type 0
ResolvedFieldRows =
    (field_of (of_class (codes "q/Open") (codes "size") (codes "I")) ≡ Ok (member (Prog 1) 1))
    × (field_of (of_class (codes "q/Open") (codes "inner") (codes "I")) ≡ Err link.Inaccessible)
    × (field_of (of_class (codes "q/Open") (codes "size") (codes "J")) ≡ Err link.Unresolved)
    × (field_of (of_class (codes "q/Absent") (codes "size") (codes "I")) ≡ Err link.Unresolved)
    × (field_of (of_class (codes "q/Hidden") (codes "x") (codes "I")) ≡ Err link.Inaccessible)
    × (field_of system_out ≡ Ok (member (Lib 8) 0))

-- a method of a class and of an interface, each named as the other too; what isn't there or isn't accessible is told
-- first
abbrev pub ResolvedMethodRows : Type 0
ResolvedMethodRows =
    (method_of (of_class (codes "q/Open") (codes "m") no_result) ≡ Ok (member (Prog 1) 3))
    × (method_of (of_interface (codes "q/Open") (codes "m") no_result) ≡ Err link.WrongKind)
    × (method_of (of_interface (codes "q/Open") (codes "own") no_result) ≡ Err link.Inaccessible)
    × (method_of (of_interface (codes "q/Able") (codes "a") no_result) ≡ Ok (member (Prog 3) 0))
    × (method_of (of_class (codes "q/Able") (codes "a") no_result) ≡ Err link.WrongKind)
    × (method_of (of_class (codes "q/Able") (codes "b") no_result) ≡ Err link.Unresolved)

-- methods of Object that a program may name and that it may not, through a class and an interface too
abbrev pub LibraryMethodRows : Type 0
LibraryMethodRows =
    (method_of equals ≡ Ok (member (Lib 0) 1))
    × (method_of (of_interface (codes "q/Able") (codes "equals") (codes "(Ljava/lang/Object;)Z"))
    ≡ Ok (member (Lib 0) 1))
    × (method_of (of_class (codes "q/Open") (codes "hashCode") (codes "()I")) ≡ Err link.LeftOutMember)
    × (method_of (of_class (codes "q/Open") (codes "finalize") no_result) ≡ Err link.LeftOutMember)
    × (method_of (of_class (codes "q/Able") (codes "hashCode") (codes "()I")) ≡ Err link.WrongKind)

-- a member of an array by the class of its elements; none of an array is taken, and no array is an interface
abbrev pub ResolvedArrayRows : Type 0
ResolvedArrayRows =
    (method_of (clone_of base.Int false) ≡ Err link.LeftOutMember)
    × (method_of (clone_of base.Int true) ≡ Err link.WrongKind)
    × (method_of (clone_of open_class false) ≡ Err link.LeftOutMember)
    × (method_of (clone_of hidden_class true) ≡ Err link.Inaccessible)
    × (method_of (clone_of absent_class false) ≡ Err link.Unresolved)
    × (field_of (record (clone_of base.Int false) { name = codes "length"; ty = codes "I" }) ≡ Err link.LeftOutMember)

-- ---- classes that are named

-- a class with this superclass and this superinterface
abbrev pub below : List ℕ → List ℕ → Class
below above interface = plain_class 0x0020 (codes "p/Below") above (interface ∷ []) [] []

-- a superclass of another package that isn't public, a public one, and one of the own package; a superinterface so
abbrev pub SupertypeRows : Type 0
SupertypeRows =
    (links_checked (below (codes "q/Hidden") (codes "java/lang/Cloneable") ∷ class_hidden ∷ [])
    ≡ in_class 0 Inaccessible)
    × (links_checked (below (codes "q/Open") (codes "java/lang/Cloneable") ∷ class_open ∷ []) ≡ taken)
    × (links_checked (plain_class 0x0020 (codes "q/Below") (codes "q/Hidden") [] [] [] ∷ class_hidden ∷ []) ≡ taken)
    × (links_checked (below object (codes "q/I") ∷ plain_class 0x0600 (codes "q/I") object [] [] [] ∷ [])
    ≡ in_class 0 Inaccessible)
    × (links_checked (below object (codes "q/I") ∷ plain_class 0x0601 (codes "q/I") object [] [] [] ∷ []) ≡ taken)

-- class p.Typed { int x; .. y; .. m(..) throws .. }
abbrev pub typed : FieldType → FieldType → Option FieldType → List ℕ → Class
typed field parameter ret thrown = plain_class 0x0020 (codes "p/Typed") object []
    (int_field 0x0000 (codes "x") ∷ typed_field 0x0000 (codes "y") field ∷ [])
    (made_method 0x0000 (codes "m") (parameter ∷ []) ret (thrown ∷ []) None ∷ [])

-- in the descriptors of fields and methods, and in Exceptions
abbrev pub TypeRows : Type 0
TypeRows =
    (links_checked (typed open_type open_type (Some open_type) (codes "q/Open") ∷ class_open ∷ []) ≡ taken)
    × (links_checked (typed hidden_type open_type None (codes "q/Open") ∷ class_open ∷ class_hidden ∷ [])
    ≡ in_member 0 1 Inaccessible)
    × (links_checked (typed (array_type absent_class) open_type None (codes "q/Open") ∷ class_open ∷ [])
    ≡ in_member 0 1 Unresolved)
    × (links_checked (typed open_type absent_type None (codes "q/Open") ∷ class_open ∷ []) ≡ in_member 0 2 Unresolved)
    × (links_checked (typed open_type open_type (Some (array_type hidden_class))
    (codes "q/Open") ∷ class_open ∷ class_hidden ∷ [])
    ≡ in_member 0 2 Inaccessible)
    × (links_checked (typed open_type open_type None (codes "q/Hidden") ∷ class_open ∷ class_hidden ∷ [])
    ≡ in_member 0 2 Inaccessible)

-- in class operands, and in the descriptor of a reference
abbrev pub OperandRows : Type 0
OperandRows =
    (links_checked (main (op.CheckCast open_type) ∷ class_open ∷ []) ≡ taken)
    × (links_checked (main (op.CheckCast absent_type) ∷ []) ≡ in_run Unresolved)
    × (links_checked (main (op.InstanceOf (array_type hidden_class)) ∷ class_hidden ∷ []) ≡ in_run Inaccessible)
    × (links_checked (main (op.ANewArray hidden_type) ∷ class_hidden ∷ []) ≡ in_run Inaccessible)
    × (links_checked (main (op.MultiNewArray (array_type absent_class) 1) ∷ []) ≡ in_run Unresolved)
    × (links_checked (main (op.InvokeVirtual (of_class object (codes "getClass") (codes "()Ljava/lang/Class;"))) ∷ [])
    ≡ in_run Unresolved)

-- class p.Main { void run() }, whose code has a handler and a frame
abbrev pub main_with : Option (List ℕ) → List VType → List VType → Class
main_with caught locals stack = plain_class 0x0020 (codes "p/Main") object [] []
    (made_method 0x0000 (codes "run") [] None [] (Some (code_of (op.Nop ∷ op.Nop ∷ [])
    (record { from = 0; to = 1; entry = 1; caught = caught } ∷ [])
    (record { index = 1; frame = record { locals = locals; stack = stack } } ∷ []))) ∷ [])

-- in handlers and frames
abbrev pub HandlerRows : Type 0
HandlerRows =
    (links_checked (main_with (Some (codes "java/lang/Throwable")) (vtype.Object open_type ∷ []) [] ∷ class_open ∷ [])
    ≡ taken)
    × (links_checked (main_with None (vtype.Top ∷ vtype.Uninit 0 ∷ []) (vtype.Null ∷ []) ∷ []) ≡ taken)
    × (links_checked (main_with (Some (codes "java/lang/Absent")) [] [] ∷ []) ≡ in_run Unresolved)
    × (links_checked (main_with (Some (codes "q/Hidden")) [] [] ∷ class_hidden ∷ []) ≡ in_run Inaccessible)
    × (links_checked (main_with None (vtype.Int ∷ vtype.Object (array_type hidden_class) ∷ []) [] ∷ class_hidden ∷ [])
    ≡ in_run Inaccessible)
    × (links_checked (main_with None [] (vtype.Object absent_type ∷ []) ∷ []) ≡ in_run Unresolved)

-- ---- members that are named

-- static fields and others, each by the instructions of both; of the library's none is written
abbrev pub FieldRows : Type 0
FieldRows =
    (links_checked (main (op.GetStatic (of_class (codes "q/Open") (codes "count") (codes "I"))) ∷ class_open ∷ [])
    ≡ taken)
    × (links_checked (main (op.GetField (of_class (codes "q/Open") (codes "count") (codes "I"))) ∷ class_open ∷ [])
    ≡ in_run WrongKind)
    × (links_checked (main (op.PutField (of_class (codes "q/Open") (codes "size") (codes "I"))) ∷ class_open ∷ [])
    ≡ taken)
    × (links_checked (main (op.PutStatic (of_class (codes "q/Open") (codes "size") (codes "I"))) ∷ class_open ∷ [])
    ≡ in_run WrongKind)
    × (links_checked (main (op.GetStatic system_out) ∷ []) ≡ taken)
    × (links_checked (main (op.PutStatic system_out) ∷ []) ≡ in_run LeftOutMember)

-- public class q.Begun { public static void <clinit>() }
abbrev pub class_begun : Class
class_begun = plain_class 0x0021 (codes "q/Begun") object [] [] (plain_method 0x0009 (codes "<clinit>") ∷ [])

-- static methods and others, each by the instructions of both; class initialisation methods by none
abbrev pub CallRows : Type 0
CallRows =
    (links_checked (main (op.InvokeStatic (of_class (codes "q/Open") (codes "s") no_result)) ∷ class_open ∷ []) ≡ taken)
    × (links_checked (main (op.InvokeVirtual (of_class (codes "q/Open") (codes "s") no_result)) ∷ class_open ∷ [])
    ≡ in_run WrongKind)
    × (links_checked (main (op.InvokeVirtual (of_class (codes "q/Open") (codes "m") no_result)) ∷ class_open ∷ [])
    ≡ taken)
    × (links_checked (main (op.InvokeStatic (of_class (codes "q/Open") (codes "m") no_result)) ∷ class_open ∷ [])
    ≡ in_run WrongKind)
    × (links_checked (main (op.InvokeInterface (of_interface (codes "q/Able")
    (codes "a") no_result)) ∷ interface_able ∷ []) ≡ taken)
    × (links_checked (main (op.InvokeStatic (of_class (codes "q/Begun")
    (codes "<clinit>") no_result)) ∷ class_begun ∷ []) ≡ in_run WrongKind)

-- a library method that a program may not name, by the instruction of its kind and by another one; one that it may
abbrev pub LibraryCallRows : Type 0
LibraryCallRows =
    (links_checked (main (op.InvokeVirtual hash_code) ∷ []) ≡ in_run LeftOutMember)
    × (links_checked (main (op.InvokeStatic hash_code) ∷ []) ≡ in_run WrongKind)
    × (links_checked (main (op.InvokeVirtual equals) ∷ []) ≡ taken)
    × (links_checked (main (op.InvokeSpecial (of_class object (codes "finalize") no_result)) ∷ [])
    ≡ in_run LeftOutMember)
    × (links_checked (main (op.InvokeInterface (of_interface (codes "q/Able") (codes "hashCode")
    (codes "()I"))) ∷ interface_able ∷ [])
    ≡ in_run LeftOutMember)
    × (links_checked (main (op.InvokeStatic (of_interface (codes "q/Able") (codes "hashCode")
    (codes "()I"))) ∷ interface_able ∷ [])
    ≡ in_run WrongKind)

-- class q.Main { void run() }, whose code has this instruction
abbrev pub main_beside : Op → Class
main_beside op = plain_class 0x0020 (codes "q/Main") object [] [] (running 0x0000 (codes "run") (op ∷ []) ∷ [])

-- public class q.Guarded { protected void g() private void h() }
abbrev pub class_guarded : Class
class_guarded = plain_class 0x0021 (codes "q/Guarded") object [] []
    (plain_method 0x0004 (codes "g") ∷ plain_method 0x0002 (codes "h") ∷ [])

-- a method of the package from there and from another one, a protected one from a subclass and from another class, and
-- a private one
abbrev pub AccessRows : Type 0
AccessRows =
    (links_checked (main_beside (op.InvokeVirtual (of_class (codes "q/Open")
    (codes "own") no_result)) ∷ class_open ∷ []) ≡ taken)
    × (links_checked (main (op.InvokeVirtual (of_class (codes "q/Open") (codes "own") no_result)) ∷ class_open ∷ [])
    ≡ in_run Inaccessible)
    × (links_checked (main_below (codes "q/Guarded") (op.InvokeVirtual
    (of_class (codes "p/Main") (codes "g") no_result)) ∷ class_guarded ∷ [])
    ≡ taken)
    × (links_checked (main (op.InvokeVirtual (of_class (codes "q/Guarded") (codes "g") no_result)) ∷ class_guarded ∷ [])
    ≡ in_run Inaccessible)
    × (links_checked (main_beside (op.InvokeVirtual (of_class (codes "q/Guarded")
    (codes "h") no_result)) ∷ class_guarded ∷ [])
    ≡ in_run Inaccessible)

-- public class q.Above { public q.Above() public void m() }
abbrev pub class_above : Class
class_above = plain_class 0x0021 (codes "q/Above") object [] []
    (plain_method 0x0001 init ∷ plain_method 0x0001 (codes "m") ∷ [])

-- by invokespecial in the own class and a superclass, and not in another class or an interface
abbrev pub SpecialRows : Type 0
SpecialRows =
    (links_checked (main (op.InvokeSpecial (of_class (codes "p/Main") (codes "run") no_result)) ∷ []) ≡ taken)
    × (links_checked (main_below (codes "q/Above") (op.InvokeSpecial
    (of_class (codes "q/Above") (codes "m") no_result)) ∷ class_above ∷ [])
    ≡ taken)
    × (links_checked (main_below (codes "q/Above") (op.InvokeSpecial equals) ∷ class_above ∷ []) ≡ taken)
    × (links_checked (main (op.InvokeSpecial (of_class (codes "q/Open") (codes "m") no_result)) ∷ class_open ∷ [])
    ≡ in_run WrongKind)
    × (links_checked (main (op.InvokeSpecial (of_interface (codes "q/Able")
    (codes "a") no_result)) ∷ interface_able ∷ []) ≡ in_run WrongKind)
    × (links_checked (main (op.InvokeSpecial (of_class (codes "q/Open") (codes "s") no_result)) ∷ class_open ∷ [])
    ≡ in_run WrongKind)

-- an instance initialisation method of the class that is named, by invokespecial alone, and none that is found in a
-- superclass of that
abbrev pub InitRows : Type 0
InitRows =
    (links_checked (main (op.InvokeSpecial (of_class (codes "q/Above") init no_result)) ∷ class_above ∷ []) ≡ taken)
    × (links_checked (main (op.InvokeSpecial (of_class (codes "q/Open") init no_result)) ∷ class_open ∷ [])
    ≡ in_run WrongKind)
    × (links_checked (main (op.InvokeVirtual (of_class (codes "q/Above") init no_result)) ∷ class_above ∷ [])
    ≡ in_run WrongKind)
    × (links_checked (main (op.InvokeStatic (of_class (codes "q/Above") init no_result)) ∷ class_above ∷ [])
    ≡ in_run WrongKind)
    × (links_checked (main (op.InvokeInterface (of_interface (codes "q/Able") init no_result)) ∷ interface_able ∷ [])
    ≡ in_run WrongKind)
    × (links_checked (main (op.InvokeSpecial (of_class (codes "java/lang/LinkageError") init no_result)) ∷ [])
    ≡ in_run WrongKind)
    × (links_checked (main (op.InvokeSpecial (of_interface (codes "q/Able") init no_result)) ∷ interface_able ∷ [])
    ≡ in_run WrongKind)

-- a class of the program and one of the library, and what no object is made of
abbrev pub NewRows : Type 0
NewRows =
    (links_checked (main (op.New (codes "q/Open")) ∷ class_open ∷ []) ≡ taken)
    × (links_checked (main (op.New (codes "java/lang/Exception")) ∷ []) ≡ taken)
    × (links_checked (main (op.New (codes "q/Partly")) ∷ plain_class 0x0421 (codes "q/Partly") object [] [] [] ∷ [])
    ≡ in_run WrongKind)
    × (links_checked (main (op.New (codes "q/Able")) ∷ interface_able ∷ []) ≡ in_run WrongKind)
    × (links_checked (main (op.New (codes "java/lang/Runnable")) ∷ []) ≡ in_run WrongKind)
    × (links_checked (main (op.New (codes "q/Absent")) ∷ []) ≡ in_run Unresolved)
    × (links_checked (main (op.New (codes "q/Hidden")) ∷ class_hidden ∷ []) ≡ in_run Inaccessible)

-- a method of an array, by the instruction
abbrev pub ArrayCallRows : Type 0
ArrayCallRows =
    (links_checked (main (op.InvokeVirtual (clone_of base.Int false)) ∷ []) ≡ in_run LeftOutMember)
    × (links_checked (main (op.InvokeInterface (clone_of base.Int true)) ∷ []) ≡ in_run WrongKind)
    × (links_checked (main (op.InvokeSpecial (clone_of base.Int false)) ∷ []) ≡ in_run WrongKind)
    × (links_checked (main (op.InvokeSpecial (record (clone_of base.Int false) { name = init; ty = no_result })) ∷ [])
    ≡ in_run WrongKind)

-- ---- fields that are final

-- class p.Final { final int x; static final int y; public p.Final() void m() static void <clinit>() }, whose methods
-- have these instructions
abbrev pub class_final : List Op → List Op → List Op → Class
class_final in_init in_method in_clinit = plain_class 0x0020 (codes "p/Final") object []
    (int_field 0x0010 (codes "x") ∷ int_field 0x0018 (codes "y") ∷ [])
    (running 0x0001 init in_init ∷ running 0x0000 (codes "m") in_method ∷ running 0x0008
    (codes "<clinit>") in_clinit ∷ [])

abbrev pub put_x : Op
put_x = op.PutField (of_class (codes "p/Final") (codes "x") (codes "I"))

abbrev pub put_y : Op
put_y = op.PutStatic (of_class (codes "p/Final") (codes "y") (codes "I"))

-- class p.Under extends p.Final, with this method
abbrev pub below_final : Method → List Class
below_final m = plain_class 0x0020 (codes "p/Under") (codes "p/Final") [] [] (m ∷ []) ∷ class_final [] [] [] ∷ []

-- each in its own method of the class, and nowhere else
abbrev pub FinalRows : Type 0
FinalRows =
    (links_checked (class_final (put_x ∷ []) [] (put_y ∷ []) ∷ []) ≡ taken)
    × (links_checked (class_final [] (put_x ∷ []) [] ∷ []) ≡ in_member 0 3 WrongKind)
    × (links_checked (class_final [] [] (put_x ∷ []) ∷ []) ≡ in_member 0 4 WrongKind)
    × (links_checked (class_final (put_y ∷ []) [] [] ∷ []) ≡ in_member 0 2 WrongKind)
    × (links_checked (class_final [] (put_y ∷ []) [] ∷ []) ≡ in_member 0 3 WrongKind)
    × (links_checked (below_final (running 0x0001 init (put_x ∷ []))) ≡ in_run WrongKind)
    × (links_checked (below_final (running 0x0008 (codes "<clinit>") (put_y ∷ []))) ≡ in_run WrongKind)

-- ---- overriding

-- class p.Under extends q.Over { .. void m() }, and public class q.Over { .. void m() }
abbrev pub overriding : ℕ → ℕ → List Class
overriding flags above = plain_class 0x0020 (codes "p/Under") (codes "q/Over") [] []
    (plain_method flags (codes "m") ∷ [])
    ∷ plain_class 0x0021 (codes "q/Over") object [] [] (plain_method above (codes "m") ∷ []) ∷ []

-- a public and a protected final method, one that isn't final, one of the package, a private one and a static one
abbrev pub OverridingRows : Type 0
OverridingRows =
    (links_checked (overriding 0x0001 0x0011) ≡ in_run WrongKind)
    × (links_checked (overriding 0x0004 0x0014) ≡ in_run WrongKind)
    × (links_checked (overriding 0x0011 0x0001) ≡ taken)
    × (links_checked (overriding 0x0001 0x0010) ≡ taken)
    × (links_checked (overriding 0x0001 0x0012) ≡ taken)
    × (links_checked (overriding 0x0001 0x0019) ≡ taken)
    × (links_checked (overriding 0x0009 0x0011) ≡ taken)

-- class p.Under extends q.Mid { public void m() }, public class q.Mid extends q.Over { .. }, and public class q.Over {
-- final void m() }
abbrev pub overriding_through : List Method → List Class
overriding_through between = plain_class 0x0020 (codes "p/Under") (codes "q/Mid") [] []
    (plain_method 0x0001 (codes "m") ∷ [])
    ∷ plain_class 0x0021 (codes "q/Mid") (codes "q/Over") [] [] between
    ∷ plain_class 0x0021 (codes "q/Over") object [] [] (plain_method 0x0010 (codes "m") ∷ []) ∷ []

-- a method of another package overrides the final one through one of its package
abbrev pub OverridingThroughRows : Type 0
OverridingThroughRows =
    (links_checked (overriding_through (plain_method 0x0001 (codes "m") ∷ [])) ≡ in_run WrongKind)
    × (links_checked (overriding_through []) ≡ taken)

-- class p.Named { .. void finalize() }, or with another name
abbrev pub named : ℕ → List ℕ → Class
named flags name = plain_class 0x0020 (codes "p/Named") object [] [] (plain_method flags name ∷ [])

-- methods of the library, of which finalize may not be overridden; a static one and one of an interface override none
abbrev pub LibraryOverridingRows : Type 0
LibraryOverridingRows =
    (links_checked (named 0x0004 (codes "finalize") ∷ []) ≡ in_run LeftOutMember)
    × (links_checked (named 0x0001 (codes "notify") ∷ []) ≡ taken)
    × (links_checked (named 0x0008 (codes "finalize") ∷ []) ≡ taken)
    × (links_checked (plain_class 0x0600 (codes "p/I") object [] [] (plain_method 0x0401 (codes "finalize") ∷ []) ∷ [])
    ≡ taken)

-- ---- superinterfaces

-- interface p.I { void notify(); }, or with a method of another name
abbrev pub naming : List ℕ → Class
naming name = plain_class 0x0600 (codes "p/I") object [] [] (plain_method 0x0401 name ∷ [])

-- interface p.I { boolean equals(Object); }
abbrev pub naming_equals : Class
naming_equals = plain_class 0x0600 (codes "p/I") object [] []
    (made_method 0x0401 (codes "equals") (class_type object ∷ [])
    (Some (record { dims = 0; base = base.Boolean })) [] None ∷ [])

-- class p.C extends .. implements p.I
abbrev pub implementing : ℕ → List ℕ → List Method → Class
implementing flags above methods = plain_class flags (codes "p/C") above (codes "p/I" ∷ []) [] methods

-- an interface's method that runs one of the library that a program may not name, one of the class, a private one too,
-- one of the library that a program may name, and none
abbrev pub SuperinterfaceRows : Type 0
SuperinterfaceRows =
    (links_checked (implementing 0x0020 object [] ∷ naming (codes "notify") ∷ []) ≡ in_class 0 LeftOutMember)
    × (links_checked (implementing 0x0020 object [] ∷ naming (codes "finalize") ∷ []) ≡ in_class 0 LeftOutMember)
    × (links_checked (implementing 0x0020 object (plain_method 0x0001 (codes "notify") ∷ []) ∷ naming
    (codes "notify") ∷ []) ≡ taken)
    × (links_checked (implementing 0x0020 object (plain_method 0x0002 (codes "notify") ∷ []) ∷ naming
    (codes "notify") ∷ []) ≡ taken)
    × (links_checked (implementing 0x0020 object [] ∷ naming_equals ∷ []) ≡ taken)
    × (links_checked (implementing 0x0020 object [] ∷ naming (codes "m") ∷ []) ≡ taken)

-- not of an abstract class or an interface, but of a class below; and of no interface of the library
abbrev pub ImplementingRows : Type 0
ImplementingRows =
    (links_checked (implementing 0x0420 object [] ∷ naming (codes "notify") ∷ []) ≡ taken)
    × (links_checked (plain_class 0x0600 (codes "p/J") object (codes "p/I" ∷ []) [] [] ∷ naming (codes "notify") ∷ [])
    ≡ taken)
    × (links_checked (plain_class 0x0020 (codes "p/D") (codes "p/C") [] [] [] ∷ implementing 0x0420 object [] ∷ naming
    (codes "notify") ∷ [])
    ≡ in_class 0 LeftOutMember)
    × (links_checked (plain_class 0x0020 (codes "p/E") object (codes "java/lang/CharSequence" ∷ []) [] [] ∷ []) ≡ taken)

-- interface p.I { void m(); .. }
abbrev pub interface_with : Method → Class
interface_with m = plain_class 0x0600 (codes "p/I") object [] [] (plain_method 0x0401 (codes "m") ∷ m ∷ [])

-- a method of an interface with a body, a static one and a native one too; its class initialisation method has one
abbrev pub InterfaceBodyRows : Type 0
InterfaceBodyRows =
    (links_checked (interface_with (plain_method 0x0008 (codes "<clinit>")) ∷ []) ≡ taken)
    × (links_checked (interface_with (plain_method 0x0401 (codes "n")) ∷ []) ≡ taken)
    × (links_checked (interface_with (plain_method 0x0001 (codes "n")) ∷ []) ≡ in_member 0 1 LeftOutMember)
    × (links_checked (interface_with (plain_method 0x0009 (codes "n")) ∷ []) ≡ in_member 0 1 LeftOutMember)
    × (links_checked (interface_with (plain_method 0x0101 (codes "n")) ∷ []) ≡ in_member 0 1 LeftOutFlag)

-- ---- what is left out

-- by the flags: an annotation, an enum, a native method; an enum's field is taken
abbrev pub FlagRows : Type 0
FlagRows =
    (links_checked (plain_class 0x2600 (codes "p/A") object [] [] [] ∷ []) ≡ in_class 0 LeftOutFlag)
    × (links_checked (plain_class 0x4020 (codes "p/E") object [] [] [] ∷ []) ≡ in_class 0 LeftOutFlag)
    × (links_checked (plain_class 0x0020 (codes "p/N") object [] [] (plain_method 0x0100 (codes "n") ∷ []) ∷ [])
    ≡ in_run LeftOutFlag)
    × (links_checked (plain_class 0x0020 (codes "p/F") object [] (int_field 0x4019 (codes "f") ∷ []) [] ∷ []) ≡ taken)

-- as the reader noted it, at the class, a field or a method
abbrev pub NotedRows : Type 0
NotedRows =
    (links_checked (noted None left.Constant class_open ∷ []) ≡ in_class 0 LeftOutConstant)
    × (links_checked (noted None left.Flag class_open ∷ []) ≡ in_class 0 LeftOutFlag)
    × (links_checked (noted (Some 2) left.Constant class_open ∷ []) ≡ in_member 0 2 LeftOutConstant)
    × (links_checked (noted (Some 3) left.Opcode class_open ∷ []) ≡ in_member 0 3 LeftOutOpcode)
    × (links_checked (noted (Some 5) left.FloatType class_open ∷ []) ≡ in_member 0 5 LeftOutType)
    × (links_checked (class_open ∷ []) ≡ taken)

-- float and double in descriptors, frames and class operands
abbrev pub FloatRows : Type 0
FloatRows =
    (links_checked (typed float open_type None (codes "q/Open") ∷ class_open ∷ []) ≡ in_member 0 1 LeftOutType)
    × (links_checked (typed open_type (array_type base.Double) None (codes "q/Open") ∷ class_open ∷ [])
    ≡ in_member 0 2 LeftOutType)
    × (links_checked (typed open_type open_type (Some float) (codes "q/Open") ∷ class_open ∷ [])
    ≡ in_member 0 2 LeftOutType)
    × (links_checked (main (op.GetStatic (of_class (codes "q/Open") (codes "count") (codes "F"))) ∷ class_open ∷ [])
    ≡ in_run LeftOutType)
    × (links_checked (main (op.InvokeStatic (of_class (codes "q/Open") (codes "s") (codes "([D)V"))) ∷ class_open ∷ [])
    ≡ in_run LeftOutType)
    × (links_checked (main (op.CheckCast (array_type base.Float)) ∷ []) ≡ in_run LeftOutType)
    × (links_checked (main_with None (vtype.Object (array_type base.Double) ∷ []) [] ∷ []) ≡ in_run LeftOutType)
    × (links_checked (main (op.CheckCast (array_type base.Long)) ∷ []) ≡ taken)

-- ---- several faults

-- class p.Two { void m() void n() }, whose methods have these instructions
abbrev pub two : List Op → List Op → Class
two ms ns = plain_class 0x0020 (codes "p/Two") object [] []
    (running 0x0000 (codes "m") ms ∷ running 0x0000 (codes "n") ns ∷ [])

abbrev pub wrong_kind : Op
wrong_kind = op.New (codes "java/lang/Runnable")

abbrev pub unresolved : Op
unresolved = op.New (codes "q/Absent")

abbrev pub left_out_member : Op
left_out_member = op.PutStatic system_out

-- at one place the first kind counts, whichever instruction comes first; an earlier member comes before a later one,
-- and an earlier class
abbrev pub SeveralRows : Type 0
SeveralRows =
    (links_checked (two (left_out_member ∷ wrong_kind ∷ unresolved ∷ []) [] ∷ []) ≡ in_member 0 0 Unresolved)
    × (links_checked (two (left_out_member ∷ wrong_kind ∷ []) [] ∷ []) ≡ in_member 0 0 WrongKind)
    × (links_checked (two (left_out_member ∷ []) (unresolved ∷ []) ∷ []) ≡ in_member 0 0 LeftOutMember)
    × (links_checked (two [] (unresolved ∷ op.CheckCast (array_type base.Float) ∷ []) ∷ []) ≡ in_member 0 1 LeftOutType)
    × (links_checked (class_open ∷ two [] (wrong_kind ∷ []) ∷ noted None left.Flag class_hidden ∷ [])
    ≡ in_member 1 1 WrongKind)
    × (links_checked (noted (Some 1) left.Opcode (two (wrong_kind ∷ []) []) ∷ []) ≡ in_member 0 0 WrongKind)
    × (links_checked [] ≡ taken)
