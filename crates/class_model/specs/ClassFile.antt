-- Which bytes spell a class: the ClassFile structure and what it stands for (JVMS 4.1).
use Rattle.std.specs.Prelude.{◌≡◌, ℕ, ◌+◌, ◌^◌, ◌<◌, Bool, true, false, List, [], ◌∷◌, ◌++◌, length, AllPairs, Option}
use Rattle.std.specs.Prelude.{Some, None, codes, if◌then◌else◌}
use Rattle.std.specs.Int.{w16, to_be_bytes}
use Rattle.std.specs.List.{AllZip, flat_map, list_any}
use Rattle.class_model.specs.declared.pool.Entry.{Entry}
use Rattle.class_model.specs.declared.pool.Entry.TheVariants as entry
use Rattle.class_model.specs.declared.class.Method.{Method}
use Rattle.class_model.specs.declared.class.Class.{Class}
use Rattle.class_model.specs.declared.class.LeftOut.{LeftOut}
use Rattle.class_model.specs.declared.class.LeftKind.{LeftKind}
use Rattle.class_model.specs.declared.class.LeftKind.TheVariants as left
use Rattle.class_model.specs.Pool.{IsClassAt}
use Rattle.class_model.specs.Structure.{AttributeInfo, attribute_info, MemberInfo, member_info, head}
use Rattle.class_model.specs.ConstantPool.{CpInfo, cp_info, IsPool}
use Rattle.class_model.specs.Flags.{class_mask, are_class_flags, is_interface, is_left_out_class}
use Rattle.class_model.specs.Attributes.{named, AreAttributes, Single, IsMark, IsSourceFile}
use Rattle.class_model.specs.Members.{AreFlags, IsField, FieldsDiffer, IsMethod, MethodsDiffer}

-- ---- the structure

-- ClassFile; the constants are those from index 1 on, counted by constant_pool_count
pub record ClassFile : Type 0 where
  pub constant_pool_count : ℕ
  pub constant_pool : List CpInfo
  pub access_flags : ℕ
  pub this_class : ℕ
  pub super_class : ℕ
  pub interfaces : List ℕ
  pub fields : List MemberInfo
  pub methods : List MemberInfo
  pub attributes : List AttributeInfo

-- magic and version 52.0, and then the items (JVMS 4.1)
abbrev pub class_file : ClassFile → List ℕ
class_file c = head ++ (to_be_bytes w16 c.constant_pool_count ++ (flat_map cp_info c.constant_pool
    ++ (to_be_bytes w16 c.access_flags ++ (to_be_bytes w16 c.this_class ++ (to_be_bytes w16 c.super_class
    ++ (to_be_bytes w16 (length c.interfaces) ++ (flat_map (to_be_bytes w16) c.interfaces
    ++ (to_be_bytes w16 (length c.fields) ++ (flat_map member_info c.fields
    ++ (to_be_bytes w16 (length c.methods) ++ (flat_map member_info c.methods
    ++ (to_be_bytes w16 (length c.attributes) ++ flat_map attribute_info c.attributes))))))))))))

-- ---- what is left out (the project's own: no value of a class has it)

-- a Float, a Double, a MethodHandle, a MethodType or an InvokeDynamic (JVMS 4.4.4, 4.4.5, 4.4.8 to 4.4.10)
abbrev pub is_left_out_entry : Entry → Bool
is_left_out_entry (entry.LeftOut tag) = true
is_left_out_entry _ = false

-- the kind that is left out of the class itself: a flag before a constant, which counts where it is unused too
abbrev pub left_out_of_class : ℕ → List Entry → Option LeftKind
left_out_of_class flags pool =
    if is_left_out_class flags then Some left.Flag
    else if list_any is_left_out_entry pool then Some left.Constant
    else None

-- the first member, from a number on, of which something is left out
abbrev pub left_out_of_members : ℕ → List (Option LeftKind) → Option LeftOut
left_out_of_members n [] = None
left_out_of_members n (Some kind ∷ kinds) = Some (record { member = Some n; kind = kind })
left_out_of_members n (None ∷ kinds) = left_out_of_members (n + 1) kinds

-- what is left out of the class itself comes first, and then by members, of which each leaves out at most one kind; the
-- methods are numbered behind the fields
abbrev pub first_left_out : Option LeftKind → ℕ → List (Option LeftKind) → Option LeftOut
first_left_out (Some kind) fields kinds = Some (record { member = None; kind = kind })
first_left_out None fields kinds = left_out_of_members fields kinds

-- ---- what it stands for

-- each structure is a method, with what is left out in it (JVMS 4.6)
abbrev pub AreMethods : List Entry → Bool → List ℕ → List MemberInfo → List Method → List (Option LeftKind) → Type 0
AreMethods pool in_interface class [] [] [] = Unit {0}
AreMethods pool in_interface class (raw ∷ raws) (method ∷ methods) (kind ∷ kinds) =
    IsMethod pool in_interface class raw method kind × AreMethods pool in_interface class raws methods kinds
AreMethods pool in_interface class _ _ _ = ⊥

-- with this pool, the items of the ClassFile stand for the class, and its left_out is what is left out first (JVMS 4.1)
pub record IsClass (raw : ClassFile) (class : Class) (pool : List Entry) : Type 0 where
  pub constant_pool : IsPool raw.constant_pool_count raw.constant_pool pool
  pub flags : AreFlags class_mask are_class_flags raw.access_flags class.flags
  pub name : IsClassAt pool raw.this_class class.name
  pub super_name : IsClassAt pool raw.super_class class.super_name
  pub interfaces_count : length raw.interfaces < 2 ^ 16
  pub interfaces : AllZip (IsClassAt pool) raw.interfaces class.interfaces
  pub fields_count : length raw.fields < 2 ^ 16
  pub fields : AllZip (IsField pool (is_interface raw.access_flags)) raw.fields class.fields
  pub fields_differ : AllPairs FieldsDiffer class.fields
  pub methods_count : length raw.methods < 2 ^ 16
  pub left_out_kinds : List (Option LeftKind)
  pub methods : AreMethods pool (is_interface raw.access_flags) class.name raw.methods class.methods left_out_kinds
  pub methods_differ : AllPairs MethodsDiffer class.methods
  pub attributes : AreAttributes pool raw.attributes
  pub source : Single (IsSourceFile pool) (named pool (codes "SourceFile") raw.attributes) class.source
  pub synthetic : IsMark (named pool (codes "Synthetic") raw.attributes) class.synthetic
  pub deprecated : IsMark (named pool (codes "Deprecated") raw.attributes) class.deprecated
  pub left_out : class.left_out
      ≡ first_left_out (left_out_of_class raw.access_flags pool) (length raw.fields) left_out_kinds

-- the bytes are a spelling of the class (JVMS 4.1)
abbrev pub File : List ℕ → Class → Type 0
File bytes class = (raw : ClassFile) × (bytes ≡ class_file raw) × (pool : List Entry) × IsClass raw class pool
