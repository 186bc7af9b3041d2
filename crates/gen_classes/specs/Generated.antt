-- The generated set: an interface, and classes of which each calls two others (the project's own: input of any size for
-- trials). Each file is the canonical spelling of its class.
use Rattle.std.specs.Prelude.{ℕ, zero, suc, ◌+◌, ◌*◌, pos, Bool, true, false, nat_lt, List, [], ◌∷◌, ◌++◌, Option, Some, None}
use Rattle.std.specs.Prelude.{codes, map}
use Rattle.std.specs.BTreeMap.{insert_entry}
use Rattle.std.specs.Cmp.Lexicographic.{slice_cmp}
use Rattle.std.specs.Fmt.{decimal}
use Rattle.std.specs.List.{filter, flat_map}
use Rattle.std.specs.Map.{values_of}
use Rattle.std.specs.Ordering.{nat_cmp}
use Rattle.jv_base.specs.declared.types.FieldType.{FieldType}
use Rattle.jv_base.specs.declared.types.Base.TheVariants as base
use Rattle.jv_base.specs.declared.types.MethodType.{MethodType}
use Rattle.tree_io.specs.declared.file_at.FileAt.{FileAt}
use Rattle.class_model.specs.declared.op.MemberRef.{MemberRef}
use Rattle.class_model.specs.declared.op.Op.{Op}
use Rattle.class_model.specs.declared.op.Op.TheVariants as op
use Rattle.class_model.specs.declared.op.Kind.TheVariants as kind
use Rattle.class_model.specs.declared.op.Num.TheVariants as num
use Rattle.class_model.specs.declared.op.ArithOp.TheVariants as arith
use Rattle.class_model.specs.declared.op.Cond.TheVariants as cond
use Rattle.class_model.specs.declared.code.Code.{Code}
use Rattle.class_model.specs.declared.code.Ins.{Ins}
use Rattle.class_model.specs.declared.frame.FrameAt.{FrameAt}
use Rattle.class_model.specs.declared.frame.VType.TheVariants as vtype
use Rattle.class_model.specs.declared.class.Method.{Method}
use Rattle.class_model.specs.declared.class.Class.{Class}
use Rattle.class_model.specs.ConstantPool.{class_type}
use Rattle.class_model.specs.Flags.{flags_of}
use Rattle.class_model.specs.CanonicalClass.{layout}

-- ---- names (JVMS 4.2)

abbrev pub object_name : List ℕ
object_name = codes "java/lang/Object"

abbrev pub interface_name : List ℕ
interface_name = codes "g/I"

-- the class with a number that calls others
abbrev pub caller_name : ℕ → List ℕ
caller_name i = codes "g/C" ++ decimal i

-- the class with a number that calls none
abbrev pub plain_name : ℕ → List ℕ
plain_name i = codes "g/D" ++ decimal i

-- ---- types (JVMS 4.3)

abbrev pub int_type : FieldType
int_type = record { dims = 0; base = base.Int }

-- (I)I
abbrev pub int_to_int : MethodType
int_to_int = record { args = int_type ∷ []; ret = Some int_type }

-- ()V
abbrev pub nothing_to_nothing : MethodType
nothing_to_nothing = record { args = []; ret = None }

-- ---- members (JVMS 4.4.2, 4.6)

-- a method of a class or an interface of this name
abbrev pub reference : List ℕ → List ℕ → List ℕ → Bool → MemberRef
reference class name ty of_interface =
    record { class = class_type class; name = name; ty = ty; of_interface = of_interface }

-- the constructor of a class, without parameters (JVMS 2.9)
abbrev pub constructor_of : List ℕ → MemberRef
constructor_of class = reference class (codes "<init>") (codes "()V") false

-- its method f
abbrev pub f_of : List ℕ → MemberRef
f_of class = reference class (codes "f") (codes "(I)I") false

-- the interface's method v
abbrev pub v_of_interface : MemberRef
v_of_interface = reference interface_name (codes "v") (codes "(I)I") true

-- instructions without lines
abbrev pub without_lines : List Op → List Ins
without_lines ops = map (λ (o : Op). record { op = o; line = None }) ops

-- a code without handlers
abbrev pub code_of : ℕ → ℕ → List Op → List FrameAt → Code
code_of max_stack max_locals ops frames = record {
  max_stack = max_stack;
  max_locals = max_locals;
  ins = without_lines ops;
  handlers = [];
  frames = frames;
}

abbrev pub method : ℕ → List ℕ → MethodType → Option Code → Method
method flags name ty code = record {
  flags = flags_of flags;
  name = name;
  ty = ty;
  code = code;
  throws = [];
  synthetic = false;
  deprecated = false;
}

-- public <init>(), which calls that of Object
abbrev pub constructor : Method
constructor = method 0x0001 (codes "<init>") nothing_to_nothing (Some (code_of 1 1
    (op.Load kind.Ref 0 ∷ op.InvokeSpecial (constructor_of object_name) ∷ op.Return None ∷ []) []))

-- public int v(int), which adds a number
abbrev pub adding : ℕ → Method
adding i = method 0x0001 (codes "v") int_to_int (Some (code_of 2 2
    (op.Load kind.Int 1 ∷ op.PushInt (pos i) ∷ op.Arith arith.Add num.Int ∷ op.Return (Some kind.Int) ∷ []) []))

-- public static int f(int), which gives its argument back
abbrev pub giving_back : Method
giving_back = method 0x0009 (codes "f") int_to_int
    (Some (code_of 1 1 (op.Load kind.Int 0 ∷ op.Return (Some kind.Int) ∷ []) []))

-- public static void dead()
abbrev pub dead : Method
dead = method 0x0009 (codes "dead") nothing_to_nothing (Some (code_of 0 0 (op.Return None ∷ []) []))

-- public abstract int v(int)
abbrev pub abstract_v : Method
abstract_v = method 0x0401 (codes "v") int_to_int None

-- ---- the method that calls others

-- a branch that is always taken, and what it leaves out
abbrev pub begins : List Op
begins = op.PushInt (pos 0) ∷ op.IfZero cond.Eq 4 ∷ op.PushInt (pos 7) ∷ op.Return (Some kind.Int) ∷ []

-- a new object of the own class, of which v is called
abbrev pub calls_v : List ℕ → List Op
calls_v own =
    op.Load kind.Int 0 ∷ op.Store kind.Int 1 ∷ op.New own ∷ op.Dup ∷ op.InvokeSpecial (constructor_of own)
    ∷ op.Load kind.Int 0 ∷ op.InvokeInterface v_of_interface ∷ []

-- what f of another class gives is added
abbrev pub calls : List ℕ → List Op
calls class = op.Load kind.Int 0 ∷ op.InvokeStatic (f_of class) ∷ op.Arith arith.Add num.Int ∷ []

-- the frame at the target of the branch (JVMS 4.7.4)
abbrev pub frame_behind : FrameAt
frame_behind = record { index = 4; frame = record { locals = vtype.Int ∷ []; stack = [] } }

-- public static int f(int) of a class, which calls f of these
abbrev pub calling : List ℕ → List (List ℕ) → Method
calling own others = method 0x0009 (codes "f") int_to_int
    (Some (code_of 2 2
    (begins ++ (calls_v own ++ (flat_map calls others ++ op.Return (Some kind.Int) ∷ []))) (frame_behind ∷ [])))

-- ---- classes (JVMS 4.1)

-- public, below Object, without fields and attributes
abbrev pub class_of : ℕ → List ℕ → List (List ℕ) → List Method → Class
class_of flags name interfaces methods = record {
  flags = flags_of flags;
  name = name;
  super_name = object_name;
  interfaces = interfaces;
  fields = [];
  methods = methods;
  source = None;
  synthetic = false;
  deprecated = false;
  left_out = None;
}

abbrev pub interface_class : Class
interface_class = class_of 0x0601 interface_name [] (abstract_v ∷ [])

-- a class that adds this number and calls these
abbrev pub caller_of : List ℕ → ℕ → List (List ℕ) → Class
caller_of name i others = class_of 0x0021 name (interface_name ∷ [])
    (constructor ∷ adding i ∷ calling name others ∷ dead ∷ [])

-- those below it in a binary tree of n
abbrev pub called : ℕ → ℕ → List ℕ
called n i = filter (λ j. nat_lt j n) ((2 * i + 1) ∷ (2 * i + 2) ∷ [])

abbrev pub caller_class : ℕ → ℕ → Class
caller_class n i = caller_of (caller_name i) i (map caller_name (called n i))

abbrev pub plain_of : List ℕ → Class
plain_of name = class_of 0x0021 name [] (constructor ∷ giving_back ∷ [])

abbrev pub plain_class : ℕ → Class
plain_class i = plain_of (plain_name i)

-- both classes of each number below this one
abbrev pub pairs_below : ℕ → ℕ → List Class
pairs_below n zero = []
pairs_below n (suc i) = pairs_below n i ++ caller_class n i ∷ plain_class i ∷ []

abbrev pub classes : ℕ → List Class
classes n = interface_class ∷ pairs_below n n

-- ---- files

-- the path of a class's file below the directory of all classes (JLS 7.2.1)
abbrev pub path_of : Class → List ℕ
path_of c = c.name ++ codes ".class"

-- its file, which is its canonical spelling (JVMS 4.1)
abbrev pub file_of : Class → FileAt
file_of c = record { path = path_of c; bytes = layout c }

-- files at their paths, in the order of the bytes of these
abbrev pub Placed : Type 0
Placed = List (List ℕ × FileAt)

abbrev pub put_file : Placed → FileAt → Placed
put_file placed file = insert_entry (slice_cmp nat_cmp) placed file.path file

-- others are put among them one after the other
abbrev pub put_files : Placed → List FileAt → Placed
put_files placed [] = placed
put_files placed (file ∷ files) = put_files (put_file placed file) files

-- files in the order of their paths
abbrev pub in_order : List FileAt → List FileAt
in_order files = values_of (put_files [] files)

-- the files of the set
abbrev pub generated : ℕ → List FileAt
generated n = in_order (map file_of (classes n))
