-- Which classes are well formed: those of which nothing is left out and that meet the rules of the format, told of
-- instruction numbers in place of offsets and without the limits on counts (JVMS 4.1 to 4.9).
use Rattle.std.specs.Prelude.{◌≡◌, ◌⊎◌, ℕ, ◌+◌, ◌^◌, ◌<◌, ◌≤◌, ℤ, pos, ◌+ℤ◌, ◌<ℤ◌, Bool, true, false, not, List, length}
use Rattle.std.specs.Prelude.{slice_get, Some, None, IfSome, IsTrue, IsSome, AllPairs, IsUtf8, is_some, codes}
use Rattle.std.specs.List.{AllByRecursion}
use Rattle.jv_base.specs.Mutf8.{IsUnits}
use Rattle.jv_base.specs.Names.{is_class_name, is_member_name, is_method_name}
use Rattle.jv_base.specs.Types.{IsFieldType, IsMethodType, method_text, argument_words}
use Rattle.jv_base.specs.declared.types.FieldType.{FieldType}
use Rattle.jv_base.specs.declared.types.MethodType.{MethodType}
use Rattle.jv_base.specs.declared.types.Base.TheVariants as base
use Rattle.class_model.specs.declared.op.MemberRef.{MemberRef}
use Rattle.class_model.specs.declared.op.Case.{Case}
use Rattle.class_model.specs.declared.op.Op.{Op}
use Rattle.class_model.specs.declared.op.Op.TheVariants as op
use Rattle.class_model.specs.declared.code.Code.{Code}
use Rattle.class_model.specs.declared.code.Ins.{Ins}
use Rattle.class_model.specs.declared.code.Handler.{Handler}
use Rattle.class_model.specs.declared.frame.VType.{VType}
use Rattle.class_model.specs.declared.frame.VType.TheVariants as vtype
use Rattle.class_model.specs.declared.frame.FrameAt.{FrameAt}
use Rattle.class_model.specs.declared.class.Constant.{Constant}
use Rattle.class_model.specs.declared.class.Constant.TheVariants as constant
use Rattle.class_model.specs.declared.class.Field.{Field}
use Rattle.class_model.specs.declared.class.Method.{Method}
use Rattle.class_model.specs.declared.class.Class.{Class}
use Rattle.class_model.specs.ConstantPool.{IsFieldText, IsMethodText}
use Rattle.class_model.specs.Opcodes.{array_type_of}
use Rattle.class_model.specs.Flags.{class_mask, field_mask, method_mask, defined_flags, is_static, is_native}
use Rattle.class_model.specs.Flags.{is_interface}
use Rattle.class_model.specs.Flags.{has_body, is_left_out_class, are_class_flags, are_field_flags, are_method_flags}
use Rattle.class_model.specs.Flags.{are_initial_flags}
use Rattle.class_model.specs.Attributes.{IsPlain, IsIntLike}
use Rattle.class_model.specs.Frames.{words_of_types, cut_tops}
use Rattle.class_model.specs.Members.{FieldsDiffer, MethodsDiffer, has_room_for_this, is_initial_type}

-- ---- names and types

-- the bytes are UTF-8, and they pass the check of names of their kind (JVMS 4.2)
abbrev pub IsName : (List ℕ → Bool) → List ℕ → Type 0
IsName passes name = IsUtf8 name × IsTrue (passes name)

-- the name of a class or an interface, in internal form; no array type (JVMS 4.2.1)
abbrev pub IsClassName : List ℕ → Type 0
IsClassName name = IsName is_class_name name

-- what a Class entry may name: a class or an array type (JVMS 4.4.1)
abbrev pub IsClassOrArray : FieldType → Type 0
IsClassOrArray ty = IsFieldType ty × ((0 < ty.dims) ⊎ ((name : List ℕ) × (ty.base ≡ base.Class name)))

-- all flags mean something (JVMS 4.1, 4.5, 4.6)
abbrev pub AreMeant : ℕ → ℕ → Type 0
AreMeant mask flags = defined_flags mask flags ≡ flags

-- ---- instructions

-- a reference with a member's name and a descriptor of its kind (JVMS 4.4.2)
pub record IsReference (is_name : List ℕ → Bool) (IsDescriptor : List ℕ → Type 0) (reference : MemberRef) : Type 0 where
  pub class : IsClassOrArray reference.class
  pub name : IsName is_name reference.name
  pub descriptor : IsDescriptor reference.ty

-- an unqualified name and a field descriptor; only a method is ever marked as that of an interface (JVMS 4.4.2)
abbrev pub IsFieldReference : MemberRef → Type 0
IsFieldReference reference = IsReference is_member_name IsFieldText reference × (reference.of_interface ≡ false)

-- a method's name, those of initialisation methods included, and a method descriptor, of a class or an interface
-- (JVMS 4.4.2)
abbrev pub IsMethodReference : MemberRef → Type 0
IsMethodReference reference = IsReference is_method_name IsMethodText reference

-- a code of n instructions
module _ (n : ℕ) where
  -- all targets are instructions, there is one case at least, and high, the key of the last, is at most 2^31 - 1
  -- (JVMS 6.5.tableswitch)
  pub record IsTableSwitch (low : ℤ) (other : ℕ) (cases : List ℕ) : Type 0 where
    pub other_target : other < n
    pub targets : AllByRecursion (λ to. to < n) cases
    pub least : 0 < length cases
    pub most : (low +ℤ pos (length cases)) <ℤ pos (2 ^ 31 + 1)

  -- all targets are instructions, and the keys ascend, each of them once (JVMS 6.5.lookupswitch)
  pub record IsLookupSwitch (other : ℕ) (cases : List Case) : Type 0 where
    pub other_target : other < n
    pub targets : AllByRecursion (λ (c : Case). c.to < n) cases
    pub ascending : AllPairs (λ (one next : Case). one.key <ℤ next.key) cases

  -- targets are instructions, and what refers to the pool names a class, an array type or a member as it should (JVMS
  -- 4.9.1)
  abbrev pub IsGoodOp : Op → Type 0
  IsGoodOp (op.PushText units) = IsUnits units
  IsGoodOp (op.IfZero c to) = to < n
  IsGoodOp (op.IfCmp c to) = to < n
  IsGoodOp (op.IfRef eq to) = to < n
  IsGoodOp (op.IfNull null to) = to < n
  IsGoodOp (op.Goto to) = to < n
  IsGoodOp (op.TableSwitch low other cases) = IsTableSwitch low other cases
  IsGoodOp (op.LookupSwitch other cases) = IsLookupSwitch other cases
  IsGoodOp (op.GetStatic reference) = IsFieldReference reference
  IsGoodOp (op.PutStatic reference) = IsFieldReference reference
  IsGoodOp (op.GetField reference) = IsFieldReference reference
  IsGoodOp (op.PutField reference) = IsFieldReference reference
  IsGoodOp (op.InvokeVirtual reference) = IsMethodReference reference × (reference.of_interface ≡ false)
  IsGoodOp (op.InvokeSpecial reference) = IsMethodReference reference
  IsGoodOp (op.InvokeStatic reference) = IsMethodReference reference
  IsGoodOp (op.InvokeInterface reference) = IsMethodReference reference × (reference.of_interface ≡ true)
  IsGoodOp (op.New name) = IsClassName name
  IsGoodOp (op.NewArray b) = (atype : ℕ) × (array_type_of atype ≡ Some b)
  IsGoodOp (op.ANewArray ty) = IsClassOrArray ty × (ty.dims ≤ 254)
  IsGoodOp (op.CheckCast ty) = IsClassOrArray ty
  IsGoodOp (op.InstanceOf ty) = IsClassOrArray ty
  IsGoodOp (op.MultiNewArray ty dimensions) = IsFieldType ty × (0 < dimensions) × (dimensions ≤ ty.dims)
  IsGoodOp _ = Unit {0}

  -- a handler covers an instruction at least (JVMS 4.7.3)
  pub record IsGoodHandler (h : Handler) : Type 0 where
    pub range : h.from < h.to
    pub to : h.to ≤ n
    pub entry : h.entry < n
    pub caught : IfSome h.caught IsClassName

-- ---- frames

-- a type in a frame of this code: an uninitialised object is that of a new (JVMS 4.7.4)
abbrev pub IsGoodType : List Ins → VType → Type 0
IsGoodType ins (vtype.Object ty) = IsClassOrArray ty
IsGoodType ins (vtype.Uninit k) = (at : Ins) × (name : List ℕ) × (slice_get ins k ≡ Some at) × (at.op ≡ op.New name)
IsGoodType ins _ = Unit {0}

-- a frame at an instruction, without Tops at the end of its locals
-- (JVMS 4.7.4; that no Tops end the locals is the project's own)
pub record IsGoodFrame (code : Code) (frame : FrameAt) : Type 0 where
  pub index : frame.index < length code.ins
  pub locals : AllByRecursion (IsGoodType code.ins) frame.frame.locals
  pub cut : cut_tops frame.frame.locals ≡ frame.frame.locals
  pub locals_fit : words_of_types frame.frame.locals ≤ code.max_locals
  pub stack : AllByRecursion (IsGoodType code.ins) frame.frame.stack
  pub stack_fits : words_of_types frame.frame.stack ≤ code.max_stack

-- ---- code

-- an instruction behind one with a line has a line (JVMS 4.7.12; that a row counts up to the next is the project's own)
abbrev pub LinesGoOn : Ins → Ins → Type 0
LinesGoOn one next = IsSome one.line → IsSome next.line

-- the frames ascend (JVMS 4.7.4)
abbrev pub Ascend : FrameAt → FrameAt → Type 0
Ascend one next = one.index < next.index

-- a code isn't empty; its instructions, handlers and frames are good, its frames ascend, its lines go on (JVMS 4.7.3,
-- 4.9.1)
pub record IsGoodCode (code : Code) : Type 0 where
  pub some : 0 < length code.ins
  pub instructions : AllByRecursion (λ (i : Ins). IsGoodOp (length code.ins) i.op) code.ins
  pub lines : AllPairs LinesGoOn code.ins
  pub handlers : AllByRecursion (IsGoodHandler (length code.ins)) code.handlers
  pub frames : AllByRecursion (IsGoodFrame code) code.frames
  pub ascending : AllPairs Ascend code.frames

-- ---- members

-- the type is java.lang.String, no array of it (JVMS 4.7.2, table 4.7.2-A)
abbrev pub IsString : FieldType → Type 0
IsString ty = IsPlain (base.Class (codes "java/lang/String")) ty

-- a constant of the type of its field (JVMS 4.7.2)
abbrev pub FitsField : FieldType → Constant → Type 0
FitsField ty (constant.Int n) = IsIntLike ty
FitsField ty (constant.Long n) = IsPlain base.Long ty
FitsField ty (constant.Text units) = IsString ty × IsUnits units

-- flags, a name and a type that the format allows; only a static field has a constant (JVMS 4.5)
pub record IsGoodField (in_interface : Bool) (field : Field) : Type 0 where
  pub meant : AreMeant field_mask field.flags.0
  pub flags : IsTrue (are_field_flags in_interface field.flags.0)
  pub name : IsName is_member_name field.name
  pub typed : IsFieldType field.ty
  pub constant : IfSome field.constant (λ value. IsTrue (is_static field.flags.0) × FitsField field.ty value)

-- a method; one that is native is left out (JVMS 4.6)
pub record IsGoodMethod (in_interface : Bool) (m : Method) : Type 0 where
  pub meant : AreMeant method_mask m.flags.0
  pub flags : IsTrue (are_method_flags m.flags.0)
  pub not_native : IsTrue (not (is_native m.flags.0))
  pub name : IsName is_method_name m.name
  pub typed : IsMethodType m.ty
  pub room_for_this : IsTrue (has_room_for_this m.flags.0 m.ty)
  pub initial_flags : IsTrue (are_initial_flags in_interface m.flags.0 m.name)
  pub initial_type : IsTrue (is_initial_type m.name m.ty)
  pub body : is_some m.code ≡ has_body m.flags.0
  pub code : IfSome m.code IsGoodCode
  pub throws : AllByRecursion IsClassName m.throws

-- ---- the class

-- a whole class, no annotation or enum: flags, names, types and codes follow the format, no member twice (JVMS 4.1 to
-- 4.9)
pub record IsWellFormed (c : Class) : Type 0 where
  pub nothing_left_out : c.left_out ≡ None
  pub meant : AreMeant class_mask c.flags.0
  pub flags : IsTrue (are_class_flags c.flags.0)
  pub no_annotation_or_enum : IsTrue (not (is_left_out_class c.flags.0))
  pub name : IsClassName c.name
  pub super_name : IsClassName c.super_name
  pub interfaces : AllByRecursion IsClassName c.interfaces
  pub fields : AllByRecursion (IsGoodField (is_interface c.flags.0)) c.fields
  pub fields_differ : AllPairs FieldsDiffer c.fields
  pub methods : AllByRecursion (IsGoodMethod (is_interface c.flags.0)) c.methods
  pub methods_differ : AllPairs MethodsDiffer c.methods
  pub source : IfSome c.source IsUnits

-- ---- what else the canonical spelling asks

-- an InvokeInterface names a method of at most 254 argument words, so that its count fits a byte (JVMS 6.5)
abbrev pub HasFewWords : Op → Type 0
HasFewWords (op.InvokeInterface reference) = (ty : MethodType) → IsMethodType ty → reference.ty ≡ method_text ty
    → argument_words ty.args ≤ 254
HasFewWords _ = Unit {0}

-- each count of an invokeinterface in the class fits a byte (JVMS 6.5.invokeinterface)
abbrev pub CountsFit : Class → Type 0
CountsFit c = AllByRecursion
    (λ (m : Method). IfSome m.code (λ (code : Code). AllByRecursion (λ (i : Ins). HasFewWords i.op) code.ins)) c.methods
