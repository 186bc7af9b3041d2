-- A program that is the image of another one: some classes and members are left out, the others have new names, and
-- nothing that is kept names what isn't. Each part of the image is told by that part of the program alone (the
-- project's own: what a law about images asks).
use Rattle.std.specs.Prelude.{◌≡◌, ℕ, Bool, true, List, [], ◌∷◌, codes, Option, Some, None, option_map}
use Rattle.std.specs.List.{AllZip, list_any}
use Rattle.jv_base.specs.Names.{is_text}
use Rattle.class_model.specs.declared.code.Code.{Code}
use Rattle.class_model.specs.declared.code.Handler.{Handler}
use Rattle.class_model.specs.declared.code.Ins.{Ins}
use Rattle.class_model.specs.declared.op.MemberRef.{MemberRef}
use Rattle.class_model.specs.declared.op.Op.{Op}
use Rattle.class_model.specs.declared.op.Op.TheVariants as op
use Rattle.lib_table.specs.Library.{object, serializable}
use Rattle.jvm_model.specs.Exceptions.{Arithmetic, NullPointer, ArrayIndex, NegativeSize, ArrayStore, ClassCast}
use Rattle.jvm_model.specs.Exceptions.{TextIndex, NoClassDef, InInitializer, IncompatibleChange, IllegalAccess}
use Rattle.jvm_model.specs.Exceptions.{AbstractMethod, exception_class}
use Rattle.jvm_model.specs.Fields.{blank, stored_in}
use Rattle.jvm_model.specs.Heap.{string, string_builder}
use Rattle.jvm_model.specs.Program.{Fails, Library, Program, Shape, Target, View}
use Rattle.jvm_model.specs.Same.{LineCorr, Names, base_name, type_name}
use Rattle.jvm_model.specs.Step.{out}
use Rattle.jvm_model.specs.Types.{argument_kinds, field_kind}
use Rattle.jvm_model.specs.Value.{Key, Value}

-- The new names, and the new references in code; a reference to what isn't kept has none. What invokespecial names is
-- told by the class that has the instruction too.
pub record Mapping : Type 0 where
  pub names : Names
  pub field_ref : MemberRef → Option MemberRef
  pub method_ref : MemberRef → Option MemberRef
  pub special_ref : (from : List ℕ) → MemberRef → Option MemberRef

-- both are there, and related; or neither is
abbrev pub OptionCorr : {A B : Type 0} → (A → B → Type 0) → Option A → Option B → Type 0
OptionCorr R None b = b ≡ None
OptionCorr {A} {B} R (Some x) b = (y : B) × (b ≡ Some y) × R x y

-- ---- codes

-- an instruction of a class under the new names, where it names what is kept alone
abbrev pub op_map : Mapping → (from : List ℕ) → Op → Option Op
op_map m from (op.GetStatic r) = option_map op.GetStatic (m.field_ref r)
op_map m from (op.PutStatic r) = option_map op.PutStatic (m.field_ref r)
op_map m from (op.GetField r) = option_map op.GetField (m.field_ref r)
op_map m from (op.PutField r) = option_map op.PutField (m.field_ref r)
op_map m from (op.InvokeVirtual r) = option_map op.InvokeVirtual (m.method_ref r)
op_map m from (op.InvokeSpecial r) = option_map op.InvokeSpecial (m.special_ref from r)
op_map m from (op.InvokeStatic r) = option_map op.InvokeStatic (m.method_ref r)
op_map m from (op.InvokeInterface r) = option_map op.InvokeInterface (m.method_ref r)
op_map m from (op.New class) = option_map op.New (m.names.class class)
op_map m from (op.NewArray b) = option_map op.NewArray (base_name m.names b)
op_map m from (op.ANewArray ty) = option_map op.ANewArray (type_name m.names ty)
op_map m from (op.CheckCast ty) = option_map op.CheckCast (type_name m.names ty)
op_map m from (op.InstanceOf ty) = option_map op.InstanceOf (type_name m.names ty)
op_map m from (op.MultiNewArray ty n) = option_map (λ u. op.MultiNewArray u n) (type_name m.names ty)
op_map m from o = Some o

-- an instruction has its image, and its line or none
pub record InsMap (m : Mapping) (from : List ℕ) (a b : Ins) : Type 0 where
  pub op : op_map m from a.op ≡ Some b.op
  pub line : LineCorr a.line b.line

-- a handler covers and begins where it did, and catches the class of the new name
pub record HandlerMap (m : Mapping) (a b : Handler) : Type 0 where
  pub places : (b.from ≡ a.from) × (b.to ≡ a.to) × (b.entry ≡ a.entry)
  pub caught : OptionCorr (λ c d. m.names.class c ≡ Some d) a.caught b.caught

-- each instruction and each handler has its image
pub record CodeMap (m : Mapping) (from : List ℕ) (a b : Code) : Type 0 where
  pub ins : AllZip (InsMap m from) a.ins b.ins
  pub handlers : AllZip (HandlerMap m) a.handlers b.handlers

-- ---- shapes

-- a call runs the method of the new name, or the same
abbrev pub TargetMap : Names → Target → Target → Type 0
TargetMap names (Program k) t = (l : Key) × (t ≡ Program l) × (names.method k ≡ Some l)
TargetMap names (Library row) t = t ≡ Library row
TargetMap names (Fails exception) t = t ≡ Fails exception

-- the classes of the library that the machine itself speaks of
abbrev pub is_own_class : List ℕ → Bool
is_own_class class = list_any (is_text class)
    (object ∷ serializable ∷ codes "java/lang/Cloneable" ∷ string ∷ string_builder ∷ codes "java/io/PrintStream"
    ∷ codes "java/lang/Error" ∷ exception_class Arithmetic ∷ exception_class NullPointer ∷ exception_class ArrayIndex
    ∷ exception_class NegativeSize ∷ exception_class ArrayStore ∷ exception_class ClassCast ∷ exception_class TextIndex
    ∷ exception_class NoClassDef ∷ exception_class InInitializer ∷ exception_class IncompatibleChange
    ∷ exception_class IllegalAccess ∷ exception_class AbstractMethod ∷ [])

-- what names mean is read through the new names
pub record ShapeMap (m : Mapping) (p q : Shape) : Type 0 where
  -- classes and fields have new names of their own; those of which the machine speaks keep theirs
  pub one_class : (a b c : List ℕ) → m.names.class a ≡ Some c → m.names.class b ≡ Some c → a ≡ b
  pub one_field : (a b c : Key) → m.names.field a ≡ Some c → m.names.field b ≡ Some c → a ≡ b
  pub own_class : (c : List ℕ) → is_own_class c ≡ true → m.names.class c ≡ Some c
  pub own_field : m.names.field out ≡ Some out
  -- a member that is kept is one of a class that is kept; a field is of a like type
  pub field_class : (k l : Key) → m.names.field k ≡ Some l → m.names.class k.class ≡ Some l.class
  pub method_class : (k l : Key) → m.names.method k ≡ Some l → m.names.class k.class ≡ Some l.class
  pub field_default : (k l : Key) → m.names.field k ≡ Some l → blank l ≡ blank k
  pub field_stored : (k l : Key) → m.names.field k ≡ Some l → (v : Value) → stored_in l v ≡ stored_in k v
  -- references
  pub field_kind : (r s : MemberRef) → m.field_ref r ≡ Some s → field_kind s.ty ≡ field_kind r.ty
  pub method_kinds : (r s : MemberRef) → m.method_ref r ≡ Some s → argument_kinds s.ty ≡ argument_kinds r.ty
  pub special_kinds : (c : List ℕ) (r s : MemberRef) → m.special_ref c r ≡ Some s
      → argument_kinds s.ty ≡ argument_kinds r.ty
  pub field : (r s : MemberRef) → m.field_ref r ≡ Some s
      → OptionCorr (λ k l. m.names.field k ≡ Some l) (p.field r) (q.field s)
  pub static_target : (r s : MemberRef) → m.method_ref r ≡ Some s
      → OptionCorr (TargetMap m.names) (p.static_target r) (q.static_target s)
  pub special_target : (c d : List ℕ) (r s : MemberRef) → m.names.class c ≡ Some d → m.special_ref c r ≡ Some s
      → OptionCorr (TargetMap m.names) (p.special_target c r) (q.special_target d s)
  pub selected_target : (c d : List ℕ) (r s : MemberRef) → m.names.class c ≡ Some d → m.method_ref r ≡ Some s
      → OptionCorr (TargetMap m.names) (p.selected_target c r) (q.selected_target d s)
  pub array_target : (r s : MemberRef) → m.method_ref r ≡ Some s
      → OptionCorr (TargetMap m.names) (p.array_target r) (q.array_target s)
  -- classes
  pub is_sub : (a b c d : List ℕ) → m.names.class a ≡ Some c → m.names.class b ≡ Some d → q.is_sub c d ≡ p.is_sub a b
  pub is_library : (c d : List ℕ) → m.names.class c ≡ Some d → q.is_library d ≡ p.is_library c
  pub firsts : (c d : List ℕ) → m.names.class c ≡ Some d
      → AllZip (λ x y. m.names.class x ≡ Some y) (p.firsts c) (q.firsts d)
  pub clinit : (c d : List ℕ) → m.names.class c ≡ Some d
      → OptionCorr (λ k l. m.names.method k ≡ Some l) (p.clinit c) (q.clinit d)
  pub constant : (k l : Key) → m.names.field k ≡ Some l → q.constant l ≡ p.constant k

-- the second program is the image of the first one
pub record Mapped (m : Mapping) (v w : View) : Type 0 where
  pub shape : ShapeMap m v.shape w.shape
  pub code : (k l : Key) → m.names.method k ≡ Some l → OptionCorr (CodeMap m k.class) (v.code k) (w.code l)
