-- What the names in an instruction mean, where a set is accepted. It is told of one instruction of one method, with no
-- state in it; resolution, selection and the library's rows come in here alone (JVMS 5.4.3, 5.4.5, 6.5).
use Rattle.std.specs.Prelude.{◌≡◌, ◌≢◌, ◌<◌, ◌≤◌, ℕ, Bool, true, false, List, Some, None, Ok}
use Rattle.std.specs.List.{AllByRecursion}
use Rattle.jv_base.specs.Descriptors.{read_field, read_method}
use Rattle.jv_base.specs.Names.{is_text}
use Rattle.jv_base.specs.declared.types.FieldType.{FieldType}
use Rattle.jv_base.specs.declared.types.MethodType.{MethodType}
use Rattle.class_model.specs.Flags.{is_init, is_static}
use Rattle.class_model.specs.Frames.{vtype_of}
use Rattle.class_model.specs.declared.class.Class.{Class}
use Rattle.class_model.specs.declared.frame.VType.TheVariants as vtype
use Rattle.class_model.specs.declared.op.MemberRef.{MemberRef}
use Rattle.class_model.specs.declared.op.Op.{Op}
use Rattle.class_model.specs.declared.op.Op.TheVariants as op
use Rattle.jvm_model.specs.Heap.{string}
use Rattle.jvm_model.specs.Program.{Target, Program, Library, Fails}
use Rattle.jvm_model.specs.Types.{array_of}
use Rattle.jvm_model.specs.Value.{Key}
use Rattle.set_view.specs.ViewOf.{shape_of}
use Rattle.type_verifier.specs.Assignable.{class_type}
use Rattle.type_verifier.specs.Environment.{Environment}
use Rattle.fit_laws.specs.Frames.{Environs}
use Rattle.fit_laws.specs.Held.{IsConcrete, is_held, is_there}
use Rattle.fit_laws.specs.Order.{HasInstances}
use Rattle.fit_laws.specs.RowTypes.{IsRowOf}

-- a descriptor tells the type of a field, which isn't float or double (JVMS 4.3.2; that these are left out is the
-- project's own)
pub record IsFieldTyped (r : MemberRef) : Type 0 where
  pub ty : FieldType
  pub read : read_field r.ty ≡ Ok ty
  pub no_float : vtype_of ty ≢ vtype.Top

-- a descriptor tells the types of a method's parameters and of its result (JVMS 4.3.3)
pub record IsMethodTyped (r : MemberRef) : Type 0 where
  pub ty : MethodType
  pub read : read_method r.ty ≡ Ok ty
  pub no_floats : AllByRecursion (λ t. vtype_of t ≢ vtype.Top) ty.args

module _ (classes : List Class) where
  -- ---- fields

  -- a reference means a field with its descriptor (JVMS 5.4.3.2)
  pub record MeansField (r : MemberRef) : Type 0 where
    pub typed : IsFieldTyped r
    pub key : Key
    pub found : (shape_of classes).field r ≡ Some key
    pub same : key.descriptor ≡ r.ty

  -- a field of an object: what has it is an instance (JVMS 6.5.getfield)
  pub record MeansObjectField (r : MemberRef) : Type 0 where
    pub field : MeansField r
    pub instances : HasInstances classes r.class

  -- ---- what a call runs

  -- a key is that of a method of the set with a code, of this type, static or not (JVMS 4.6)
  pub record IsMethodOf (key : Key) (ty : MethodType) (static : Bool) : Type 0 where
    pub env : Environment
    pub is : Environs classes key env
    pub described : env.method.ty ≡ ty
    pub class : env.class.name ≡ key.class
    pub named : env.method.name ≡ key.name
    pub static_is : is_static env.method.flags.0 ≡ static

  -- a static method runs, of the program or of the library, or an exception is thrown (JVMS 6.5.invokestatic)
  abbrev pub RunsStatic : MethodType → Target → Type 0
  RunsStatic ty (Program key) = IsMethodOf key ty true
  RunsStatic ty (Library row) = IsRowOf row None ty
  RunsStatic ty (Fails e) = Unit {0}

  -- an instance method runs that objects of a type have (JVMS 6.5.invokespecial, 6.5.invokevirtual)
  abbrev pub RunsOn : FieldType → MethodType → Target → Type 0
  RunsOn from ty (Program key) = IsMethodOf key ty false × (is_init key.name ≡ false)
      × (is_held classes from (class_type key.class) ≡ true)
  RunsOn from ty (Library row) = (class : List ℕ) × IsRowOf row (Some class) ty
      × (is_held classes from (class_type class) ≡ true)
  RunsOn from ty (Fails e) = Unit {0}

  -- a constructor of a class runs (JVMS 2.9)
  abbrev pub RunsInit : List ℕ → MethodType → Target → Type 0
  RunsInit name ty (Program key) = IsMethodOf key ty false × (is_init key.name ≡ true) × (key.class ≡ name)
  RunsInit name ty (Library row) = (class : List ℕ) × IsRowOf row (Some class) ty
      × (is_held classes (class_type name) (class_type class) ≡ true)
  RunsInit name ty (Fails e) = Unit {0}

  -- ---- calls

  -- of invokestatic (JVMS 6.5.invokestatic)
  pub record CallsStatic (r : MemberRef) : Type 0 where
    pub typed : IsMethodTyped r
    pub target : Target
    pub found : (shape_of classes).static_target r ≡ Some target
    pub runs : RunsStatic typed.ty target

  -- of invokevirtual and invokeinterface: on each object that is of the type of the reference something runs, or an
  -- exception is due (JVMS 6.5.invokevirtual, 6.5.invokeinterface)
  pub record CallsSelected (r : MemberRef) : Type 0 where
    pub typed : IsMethodTyped r
    pub on_class : (class : List ℕ) → IsConcrete classes class
        → is_held classes (class_type class) r.class ≡ true
        → (t : Target) × ((shape_of classes).selected_target class r ≡ Some t)
        × RunsOn (class_type class) typed.ty t
    pub on_array : (component : FieldType) → is_held classes (array_of component) r.class ≡ true
        → (t : Target) × ((shape_of classes).array_target r ≡ Some t)
        × RunsOn (array_of component) typed.ty t

  -- of invokespecial with a constructor: one of the class that is named, which isn't that of strings (JVMS
  -- 6.5.invokespecial; that the library has no such constructor is the project's own)
  pub record CallsInit (from : List ℕ) (r : MemberRef) : Type 0 where
    pub typed : IsMethodTyped r
    pub void : typed.ty.ret ≡ None
    pub name : List ℕ
    pub class : r.class ≡ class_type name
    pub no_string : is_text name string ≡ false
    pub there : is_there classes (class_type name) ≡ true
    pub target : Target
    pub found : (shape_of classes).special_target from r ≡ Some target
    pub runs : RunsInit name typed.ty target

  -- of invokespecial with another method, on an object of the own class (JVMS 6.5.invokespecial)
  pub record CallsSpecial (from own : List ℕ) (r : MemberRef) : Type 0 where
    pub typed : IsMethodTyped r
    pub target : Target
    pub found : (shape_of classes).special_target from r ≡ Some target
    pub runs : RunsOn (class_type own) typed.ty target

  -- by whether a constructor is named (JVMS 2.9)
  abbrev pub CallsSpecialBy : Bool → List ℕ → List ℕ → MemberRef → Type 0
  CallsSpecialBy true from own r = CallsInit from r
  CallsSpecialBy false from own r = CallsSpecial from own r

  -- ---- instructions

  -- what an instruction of a method of the set names means something (JVMS 5.4.3, 6.5)
  abbrev pub IsMeant : Key → Environment → Op → Type 0
  IsMeant k env (op.GetStatic r) = MeansField r
  IsMeant k env (op.PutStatic r) = MeansField r
  IsMeant k env (op.GetField r) = MeansObjectField r
  IsMeant k env (op.PutField r) = MeansObjectField r
  IsMeant k env (op.InvokeVirtual r) = CallsSelected r
  IsMeant k env (op.InvokeInterface r) = CallsSelected r
  IsMeant k env (op.InvokeStatic r) = CallsStatic r
  IsMeant k env (op.InvokeSpecial r) = CallsSpecialBy (is_init r.name) k.class env.class.name r
  IsMeant k env (op.New name) = IsConcrete classes name
  IsMeant k env (op.NewArray b) = is_there classes (record { dims = 0; base = b }) ≡ true
  IsMeant k env (op.ANewArray ty) = is_there classes ty ≡ true
  IsMeant k env (op.MultiNewArray ty count) = (is_there classes ty ≡ true) × (0 < count) × (count ≤ ty.dims)
  IsMeant k env _ = Unit {0}
