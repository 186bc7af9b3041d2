-- What a method names, where a set has an image under new names: the classes of its types, and the members that it uses
-- (the project's own: what has to be kept, so that a code is typed in the image as it was).
use Rattle.std.specs.Prelude.{◌≡◌, ℕ, true, List, map, Option, IfSome, codes}
use Rattle.std.specs.List.{AllByRecursion}
use Rattle.std.specs.Option.{option_map}
use Rattle.jv_base.specs.Descriptors.{read_field, read_method}
use Rattle.jv_base.specs.declared.types.Base.{Base}
use Rattle.jv_base.specs.declared.types.Base.TheVariants as base
use Rattle.jv_base.specs.declared.types.FieldType.{FieldType}
use Rattle.jv_base.specs.declared.types.MethodType.{MethodType}
use Rattle.class_model.specs.Flags.{is_init}
use Rattle.class_model.specs.declared.class.Class.{Class}
use Rattle.class_model.specs.declared.code.Code.{Code}
use Rattle.class_model.specs.declared.code.Handler.{Handler}
use Rattle.class_model.specs.declared.code.Ins.{Ins}
use Rattle.class_model.specs.declared.frame.FrameAt.{FrameAt}
use Rattle.class_model.specs.declared.frame.VType.{VType}
use Rattle.class_model.specs.declared.frame.VType.TheVariants as vtype
use Rattle.class_model.specs.declared.op.MemberRef.{MemberRef}
use Rattle.class_model.specs.declared.op.Op.{Op}
use Rattle.class_model.specs.declared.op.Op.TheVariants as op
use Rattle.class_pool.specs.Hierarchy.{class_named}
use Rattle.class_rename.specs.Names.{Names}
use Rattle.class_rename.specs.Renamed.{renamed_field_ref, renamed_frame, renamed_handler, renamed_method_ref}
use Rattle.class_rename.specs.Renamed.{renamed_method_type, renamed_op, renamed_type}
use Rattle.image_laws.specs.SetImage.Image.{Image}
use Rattle.type_verifier.specs.Environment.{Environment}
use Rattle.type_verifier.specs.Members.{is_early_field, is_guarded_field, is_guarded_method}
use Rattle.type_verifier.specs.Rules.{told_type}

-- the classes of which the typing rules speak keep their names (JVMS 4.10.1.2)
pub record KeepsKnownNames (names : Names) : Type 0 where
  pub object : names.class (codes "java/lang/Object") ≡ codes "java/lang/Object"
  pub cloneable : names.class (codes "java/lang/Cloneable") ≡ codes "java/lang/Cloneable"
  pub serializable : names.class (codes "java/io/Serializable") ≡ codes "java/io/Serializable"
  pub throwable : names.class (codes "java/lang/Throwable") ≡ codes "java/lang/Throwable"
  pub string : names.class (codes "java/lang/String") ≡ codes "java/lang/String"

-- an instruction under new names, of a line of the source, if one is told
abbrev pub renamed_at : Names → (Ins → Option ℕ) → Ins → Ins
renamed_at names line j = record { op = renamed_op names j.op; line = line j }

-- a code is another one under new names; its lines may be others (JVMS 4.7.3)
pub record IsCodeRenamed (names : Names) (old new : Code) : Type 0 where
  pub max_stack : new.max_stack ≡ old.max_stack
  pub max_locals : new.max_locals ≡ old.max_locals
  pub line : Ins → Option ℕ
  pub ins : new.ins ≡ map (renamed_at names line) old.ins
  pub handlers : new.handlers ≡ map (renamed_handler names) old.handlers
  pub frames : new.frames ≡ map (renamed_frame names) old.frames

module _ (names : Names) (a b : List Class) (i : Image a b) where
  -- ---- types

  -- the class of this name, if there is one, is kept, and in the image the new name leads to it
  abbrev pub IsNamed : List ℕ → Type 0
  IsNamed name = IfSome (class_named a name) (λ c. i.kept c ≡ true)
      × (class_named b (names.class name) ≡ option_map i.moved (class_named a name))

  abbrev pub IsBaseNamed : Base → Type 0
  IsBaseNamed (base.Class name) = IsNamed name
  IsBaseNamed _ = Unit {0}

  -- so is the class of a type, or of the elements of an array type (JVMS 4.3.2)
  abbrev pub IsTypeNamed : FieldType → Type 0
  IsTypeNamed ty = IsBaseNamed ty.base

  -- the classes of the parameters and of the result (JVMS 4.3.3)
  pub record IsMethodTypeNamed (ty : MethodType) : Type 0 where
    pub args : AllByRecursion IsTypeNamed ty.args
    pub ret : IfSome ty.ret IsTypeNamed

  -- the class of a verification type (JVMS 4.7.4)
  abbrev pub IsVTypeNamed : VType → Type 0
  IsVTypeNamed (vtype.Object ty) = IsTypeNamed ty
  IsVTypeNamed _ = Unit {0}

  -- ---- handlers and frames

  -- the class that a handler catches (JVMS 4.7.3, catch_type)
  abbrev pub IsHandlerNamed : Handler → Type 0
  IsHandlerNamed h = IfSome h.caught IsNamed

  -- the classes of a frame (JVMS 4.7.4)
  pub record IsFrameNamed (f : FrameAt) : Type 0 where
    pub locals : AllByRecursion IsVTypeNamed f.frame.locals
    pub stack : AllByRecursion IsVTypeNamed f.frame.stack

  -- the classes of which the typing rules speak (JVMS 4.10.1.2)
  pub record AreKnownNamed : Type 0 where
    pub object : IsNamed (codes "java/lang/Object")
    pub throwable : IsNamed (codes "java/lang/Throwable")
    pub string : IsNamed (codes "java/lang/String")

module _ (names : Names) (a b : Environment) (i : Image a.classes b.classes) where
  -- ---- instructions

  -- the class that a reference names and those in its descriptor, which tells the new types; and the rules look at the
  -- field alike (JVMS 4.10.1.8, 4.10.1.9.putfield)
  pub record IsFieldNamed (r : MemberRef) : Type 0 where
    pub class : IsTypeNamed names a.classes b.classes i r.class
    pub type : IfSome (told_type (read_field r.ty)) (IsTypeNamed names a.classes b.classes i)
    pub told : told_type (read_field (renamed_field_ref names r).ty)
        ≡ option_map (renamed_type names) (told_type (read_field r.ty))
    pub guarded : is_guarded_field b (renamed_field_ref names r) ≡ is_guarded_field a r
    pub early : is_early_field b (renamed_field_ref names r) ≡ is_early_field a r

  -- so it is of a reference to a method; a constructor stays one (JVMS 4.10.1.8, 4.10.1.9.invokespecial)
  pub record IsMethodNamed (r : MemberRef) : Type 0 where
    pub class : IsTypeNamed names a.classes b.classes i r.class
    pub type : IfSome (told_type (read_method r.ty)) (IsMethodTypeNamed names a.classes b.classes i)
    pub told : told_type (read_method (renamed_method_ref names r).ty)
        ≡ option_map (renamed_method_type names) (told_type (read_method r.ty))
    pub guarded : is_guarded_method b (renamed_method_ref names r) ≡ is_guarded_method a r
    pub constructor : is_init (renamed_method_ref names r).name ≡ is_init r.name

  -- what an instruction names (JVMS 6.5)
  abbrev pub IsOpNamed : Op → Type 0
  IsOpNamed (op.GetStatic r) = IsFieldNamed r
  IsOpNamed (op.PutStatic r) = IsFieldNamed r
  IsOpNamed (op.GetField r) = IsFieldNamed r
  IsOpNamed (op.PutField r) = IsFieldNamed r
  IsOpNamed (op.InvokeVirtual r) = IsMethodNamed r
  IsOpNamed (op.InvokeSpecial r) = IsMethodNamed r
  IsOpNamed (op.InvokeStatic r) = IsMethodNamed r
  IsOpNamed (op.InvokeInterface r) = IsMethodNamed r
  IsOpNamed (op.New name) = IsNamed names a.classes b.classes i name
  IsOpNamed (op.NewArray ty) = IsBaseNamed names a.classes b.classes i ty
  IsOpNamed (op.ANewArray ty) = IsTypeNamed names a.classes b.classes i ty
  IsOpNamed (op.CheckCast ty) = IsTypeNamed names a.classes b.classes i ty
  IsOpNamed (op.InstanceOf ty) = IsTypeNamed names a.classes b.classes i ty
  IsOpNamed (op.MultiNewArray ty dimensions) = IsTypeNamed names a.classes b.classes i ty
  IsOpNamed _ = Unit {0}

  -- ---- a method and its code

  -- the second method and its code are the first under new names, in the class under its new name, and what the first
  -- names is kept
  pub record IsCodeNamed : Type 0 where
    pub own : b.class.name ≡ names.class a.class.name
    pub super : b.class.super_name ≡ names.class a.class.super_name
    pub flags : b.method.flags ≡ a.method.flags
    pub constructor : is_init b.method.name ≡ is_init a.method.name
    pub type : b.method.ty ≡ renamed_method_type names a.method.ty
    pub code : IsCodeRenamed names a.code b.code
    pub known : AreKnownNamed names a.classes b.classes i
    pub own_named : IsNamed names a.classes b.classes i a.class.name
    pub type_named : IsMethodTypeNamed names a.classes b.classes i a.method.ty
    pub instructions : AllByRecursion (λ (ins : Ins). IsOpNamed ins.op) a.code.ins
    pub handlers : AllByRecursion (IsHandlerNamed names a.classes b.classes i) a.code.handlers
    pub frames : AllByRecursion (IsFrameNamed names a.classes b.classes i) a.code.frames
