-- Fields and methods (JVMS 4.5, 4.6).
use Rattle.std.specs.Prelude.{◌≡◌, ℕ, ◌^◌, ◌<◌, Bool, true, false, not, ◌&&◌, ◌||◌, List, [], ◌∷◌, Option, Some, None}
use Rattle.std.specs.Prelude.{is_none, IsTrue, codes, length, ◌==◌, if◌then◌else◌}
use Rattle.jv_base.specs.declared.access.Access.{Access}
use Rattle.jv_base.specs.declared.types.MethodType.{MethodType}
use Rattle.jv_base.specs.Names.{is_member_name, is_method_name}
use Rattle.jv_base.specs.Types.{field_text, IsFieldType, method_text, IsMethodType, argument_words}
use Rattle.class_model.specs.declared.pool.Entry.{Entry}
use Rattle.class_model.specs.declared.code.Code.{Code}
use Rattle.class_model.specs.declared.frame.VType.{VType}
use Rattle.class_model.specs.declared.class.Field.{Field}
use Rattle.class_model.specs.declared.class.Method.{Method}
use Rattle.class_model.specs.declared.class.LeftKind.{LeftKind}
use Rattle.class_model.specs.declared.class.LeftKind.TheVariants as left
use Rattle.class_model.specs.Pool.{IsTextAt}
use Rattle.class_model.specs.Flags.{flags_of}
use Rattle.class_model.specs.Structure.{AttributeInfo, MemberInfo}
use Rattle.class_model.specs.Flags.{field_mask, method_mask, defined_flags, is_static, is_native, has_body}
use Rattle.class_model.specs.Flags.{are_field_flags}
use Rattle.class_model.specs.Flags.{are_method_flags, are_initial_flags, is_init, is_clinit}
use Rattle.class_model.specs.Attributes.{named, AreAttributes, IsMark, AreConstants, AreThrown}
use Rattle.class_model.specs.Frames.{initial_locals}
use Rattle.class_model.specs.CodeAttribute.{IsBody}

-- the flags of a member, where those that mean something pass a test (JVMS 4.5, 4.6)
pub record AreFlags (mask : ℕ) (passes : ℕ → Bool) (bits : ℕ) (flags : Access) : Type 0 where
  pub fit : bits < 2 ^ 16
  pub are : flags ≡ flags_of (defined_flags mask bits)
  pub good : IsTrue (passes bits)

-- the attributes of this name (JVMS 4.7)
abbrev pub named_in : List Entry → MemberInfo → List ℕ → List AttributeInfo
named_in pool raw name = named pool name raw.attributes

-- ---- fields

-- field_info, in an interface or a class (JVMS 4.5)
pub record IsField (pool : List Entry) (in_interface : Bool) (raw : MemberInfo) (field : Field) : Type 0 where
  pub flags : AreFlags field_mask (are_field_flags in_interface) raw.access_flags field.flags
  pub name : IsTextAt pool raw.name_index field.name
  pub named_right : IsTrue (is_member_name field.name)
  pub descriptor : IsTextAt pool raw.descriptor_index (field_text field.ty)
  pub typed : IsFieldType field.ty
  pub attributes : AreAttributes pool raw.attributes
  pub constant : AreConstants pool (is_static raw.access_flags) field.ty
      (named_in pool raw (codes "ConstantValue")) field.constant
  pub synthetic : IsMark (named_in pool raw (codes "Synthetic")) field.synthetic
  pub deprecated : IsMark (named_in pool raw (codes "Deprecated")) field.deprecated

-- no two fields have one name and one descriptor (JVMS 4.5)
abbrev pub FieldsDiffer : Field → Field → Type 0
FieldsDiffer one other = ¬ ((one.name ≡ other.name) × (field_text one.ty ≡ field_text other.ty))

-- ---- methods

-- a method that isn't static has at most 254 argument words, since `this` counts as one (JVMS 4.3.3)
abbrev pub has_room_for_this : ℕ → MethodType → Bool
has_room_for_this flags ty = is_static flags || not (argument_words ty.args == 255)

-- an initialisation method gives nothing, and that of a class takes nothing (JVMS 2.9)
abbrev pub is_initial_type : List ℕ → MethodType → Bool
is_initial_type name ty =
    (not (is_init name || is_clinit name) || is_none ty.ret) && (not (is_clinit name) || length ty.args == 0)

-- the code of a method with these flags, by its attributes Code, with what is left out; first are the locals of its
-- initial frame (JVMS 4.7.3; that native methods are left out is the project's own)
abbrev pub IsCodeOf : List Entry → List VType → ℕ → Bool → List AttributeInfo → Option Code → Option LeftKind → Type 0
IsCodeOf pool first flags true (a ∷ []) code left_out = IsBody pool first a.info code left_out
IsCodeOf pool first flags false [] code left_out = (code ≡ None)
    × (left_out ≡ (if is_native flags then Some left.Flag else None))
IsCodeOf pool first flags has_code attributes code left_out = ⊥

-- the locals of the initial frame of a method in a class of this name (JVMS 4.10.1.6)
abbrev pub first_locals : List ℕ → MemberInfo → Method → List VType
first_locals class raw method = initial_locals class (is_static raw.access_flags) method.name method.ty

-- method_info, in an interface or a class of this name, with what is left out in it (JVMS 4.6)
pub record IsMethod (pool : List Entry) (in_interface : Bool) (class : List ℕ) (raw : MemberInfo) (method : Method)
    (left_out : Option LeftKind) : Type 0 where
  pub flags : AreFlags method_mask are_method_flags raw.access_flags method.flags
  pub name : IsTextAt pool raw.name_index method.name
  pub named_right : IsTrue (is_method_name method.name)
  pub descriptor : IsTextAt pool raw.descriptor_index (method_text method.ty)
  pub typed : IsMethodType method.ty
  pub room_for_this : IsTrue (has_room_for_this raw.access_flags method.ty)
  pub initial_flags : IsTrue (are_initial_flags in_interface raw.access_flags method.name)
  pub initial_type : IsTrue (is_initial_type method.name method.ty)
  pub attributes : AreAttributes pool raw.attributes
  pub code : IsCodeOf pool (first_locals class raw method) raw.access_flags (has_body raw.access_flags)
      (named_in pool raw (codes "Code")) method.code left_out
  pub throws : AreThrown pool (named_in pool raw (codes "Exceptions")) method.throws
  pub synthetic : IsMark (named_in pool raw (codes "Synthetic")) method.synthetic
  pub deprecated : IsMark (named_in pool raw (codes "Deprecated")) method.deprecated

-- no two methods have one name and one descriptor (JVMS 4.6)
abbrev pub MethodsDiffer : Method → Method → Type 0
MethodsDiffer one other = ¬ ((one.name ≡ other.name) × (method_text one.ty ≡ method_text other.ty))
