-- The constant pool of a class file (JVMS 4.4): its constants as they are written, and the entries that they stand for.
use Rattle.std.specs.Prelude.{◌≡◌, ◌⊎◌, ℕ, ℤ, ◌+◌, ◌-◌, ◌*◌, ◌^◌, ◌<◌, ◌==◌, Bool, true, false, List, [], ◌∷◌, ◌++◌}
use Rattle.std.specs.Prelude.{length, slice_get, Option, Some, None, option_and_then, IsTrue, if◌then◌else◌}
use Rattle.std.specs.Int.{w16, w32, w64, to_be_bytes, cast_signed}
use Rattle.std.specs.List.{AllByRecursion, AllZip, flat_map}
use Rattle.jv_base.specs.Mutf8.{mutf8, IsUnits}
use Rattle.jv_base.specs.Names.{is_member_name, is_method_name}
use Rattle.jv_base.specs.Types.{field_text, IsFieldType, method_text, IsMethodType}
use Rattle.jv_base.specs.declared.types.FieldType.{FieldType}
use Rattle.jv_base.specs.declared.types.MethodType.{MethodType}
use Rattle.jv_base.specs.declared.types.Base.TheVariants.{Class as ClassBase}
use Rattle.class_model.specs.declared.pool.Entry.{Entry}
use Rattle.class_model.specs.declared.pool.Entry.TheVariants as entry
use Rattle.class_model.specs.declared.op.MemberRef.{MemberRef}
use Rattle.class_model.specs.Pool.{units_at, class_units_at, IsText, IsClassAt, IsTypeText}

-- ---- the constants as they are written

-- cp_info (JVMS 4.4.1 to 4.4.10), with the names of its items; of a constant that is left out only its length counts
pub data CpInfo : Type 0 where
  Utf8Info : (bytes : List ℕ) → CpInfo
  IntegerInfo : (bytes : ℕ) → CpInfo
  LongInfo : (high_bytes low_bytes : ℕ) → CpInfo
  ClassInfo : (name_index : ℕ) → CpInfo
  StringInfo : (string_index : ℕ) → CpInfo
  FieldrefInfo : (class_index name_and_type_index : ℕ) → CpInfo
  MethodrefInfo : (class_index name_and_type_index : ℕ) → CpInfo
  InterfaceMethodrefInfo : (class_index name_and_type_index : ℕ) → CpInfo
  NameAndTypeInfo : (name_index descriptor_index : ℕ) → CpInfo
  LeftOutInfo : (tag : ℕ) → (bytes : List ℕ) → CpInfo

-- the tags (JVMS 4.4, table 4.4-A)
abbrev pub tag_of : CpInfo → ℕ
tag_of (Utf8Info bytes) = 1
tag_of (IntegerInfo bytes) = 3
tag_of (LongInfo high_bytes low_bytes) = 5
tag_of (ClassInfo name_index) = 7
tag_of (StringInfo string_index) = 8
tag_of (FieldrefInfo class_index name_and_type_index) = 9
tag_of (MethodrefInfo class_index name_and_type_index) = 10
tag_of (InterfaceMethodrefInfo class_index name_and_type_index) = 11
tag_of (NameAndTypeInfo name_index descriptor_index) = 12
tag_of (LeftOutInfo tag bytes) = tag

-- two indices (JVMS 4.4.2, 4.4.6)
abbrev pub two_indices : ℕ → ℕ → List ℕ
two_indices first second = to_be_bytes w16 first ++ to_be_bytes w16 second

-- what stands behind the tag (JVMS 4.4.1 to 4.4.7)
abbrev pub contents_of : CpInfo → List ℕ
contents_of (Utf8Info bytes) = to_be_bytes w16 (length bytes) ++ bytes
contents_of (IntegerInfo bytes) = to_be_bytes w32 bytes
contents_of (LongInfo high_bytes low_bytes) = to_be_bytes w32 high_bytes ++ to_be_bytes w32 low_bytes
contents_of (ClassInfo name_index) = to_be_bytes w16 name_index
contents_of (StringInfo string_index) = to_be_bytes w16 string_index
contents_of (FieldrefInfo class_index name_and_type_index) = two_indices class_index name_and_type_index
contents_of (MethodrefInfo class_index name_and_type_index) = two_indices class_index name_and_type_index
contents_of (InterfaceMethodrefInfo class_index name_and_type_index) = two_indices class_index name_and_type_index
contents_of (NameAndTypeInfo name_index descriptor_index) = two_indices name_index descriptor_index
contents_of (LeftOutInfo tag bytes) = bytes

-- a constant as it is written: its tag, and what stands behind it (JVMS 4.4)
abbrev pub cp_info : CpInfo → List ℕ
cp_info constant = tag_of constant ∷ contents_of constant

-- how many bytes stand behind the tag of a constant that is left out: Float, Double, MethodHandle, MethodType and
-- InvokeDynamic (JVMS 4.4.4, 4.4.5, 4.4.8 to 4.4.10)
abbrev pub left_out_length : ℕ → Option ℕ
left_out_length tag =
    if tag == 4 then Some 4
    else if tag == 6 then Some 8
    else if tag == 15 then Some 3
    else if tag == 16 then Some 2
    else if tag == 18 then Some 4
    else None

-- ---- the entries that they stand for

-- both are indices (JVMS 4.4)
abbrev pub AreIndices : ℕ → ℕ → Type 0
AreIndices first second = (first < 2 ^ 16) × (second < 2 ^ 16)

-- the number of eight bytes, in two's complement (JVMS 4.4.5)
abbrev pub long_of : ℕ → ℕ → ℤ
long_of high_bytes low_bytes = cast_signed w64 (2 ^ 32 * high_bytes + low_bytes)

-- a constant stands for an entry (JVMS 4.4.1 to 4.4.7)
abbrev pub IsConstant : CpInfo → Entry → Type 0
IsConstant (Utf8Info bytes) e = (length bytes < 2 ^ 16) × (units : List ℕ) × IsUnits units × (bytes ≡ mutf8 units)
    × (e ≡ entry.Utf8 units)
IsConstant (IntegerInfo bytes) e = (bytes < 2 ^ 32) × (e ≡ entry.Integer (cast_signed w32 bytes))
IsConstant (LongInfo high_bytes low_bytes) e = (high_bytes < 2 ^ 32) × (low_bytes < 2 ^ 32)
    × (e ≡ entry.Long (long_of high_bytes low_bytes))
IsConstant (ClassInfo name_index) e = (name_index < 2 ^ 16) × (e ≡ entry.Class name_index)
IsConstant (StringInfo string_index) e = (string_index < 2 ^ 16) × (e ≡ entry.Str string_index)
IsConstant (FieldrefInfo class_index index) e = AreIndices class_index index × (e ≡ entry.Field class_index index)
IsConstant (MethodrefInfo class_index index) e = AreIndices class_index index × (e ≡ entry.Method class_index index)
IsConstant (InterfaceMethodrefInfo class_index index) e = AreIndices class_index index
    × (e ≡ entry.InterfaceMethod class_index index)
IsConstant (NameAndTypeInfo name_index index) e = AreIndices name_index index × (e ≡ entry.NameAndType name_index index)
IsConstant (LeftOutInfo tag bytes) e = (left_out_length tag ≡ Some (length bytes)) × (e ≡ entry.LeftOut tag)

-- a Long or a Double takes two indices (JVMS 4.4.5)
abbrev pub takes_two : Entry → Bool
takes_two (entry.Long n) = true
takes_two (entry.LeftOut tag) = tag == 6
takes_two _ = false

-- what stands at the one or two indices that an entry takes (JVMS 4.4.5)
abbrev pub places_of : Entry → List Entry
places_of e = if takes_two e then e ∷ entry.Gap ∷ [] else e ∷ []

-- the entries as they are numbered: index 0 is no entry, nor is the second index of a Long or a Double (JVMS 4.1,
-- 4.4.5)
abbrev pub numbered : List Entry → List Entry
numbered entries = entry.Gap ∷ flat_map places_of entries

-- ---- what entries name

-- the text is the descriptor of a field (JVMS 4.3.2)
abbrev pub IsFieldText : List ℕ → Type 0
IsFieldText text = (ty : FieldType) × IsFieldType ty × (text ≡ field_text ty)

-- the text is the descriptor of a method (JVMS 4.3.3)
abbrev pub IsMethodText : List ℕ → Type 0
IsMethodText text = (ty : MethodType) × IsMethodType ty × (text ≡ method_text ty)

-- the two indices of a CONSTANT_NameAndType (JVMS 4.4.6)
abbrev pub name_and_type_in : Entry → Option (ℕ × ℕ)
name_and_type_in (entry.NameAndType name_index descriptor_index) = Some (name_index, descriptor_index)
name_and_type_in _ = None

-- the two indices, if there is a CONSTANT_NameAndType at the index (JVMS 4.4.6)
abbrev pub name_and_type_at : List Entry → ℕ → Option (ℕ × ℕ)
name_and_type_at pool index = option_and_then name_and_type_in (slice_get pool index)

-- the CONSTANT_NameAndType at an index has this name and this descriptor (JVMS 4.4.6)
pub record IsNameAndTypeAt (pool : List Entry) (index : ℕ) (name descriptor : List ℕ) : Type 0 where
  pub indices : ℕ × ℕ
  pub entry : name_and_type_at pool index ≡ Some indices
  pub name_text : IsText (units_at pool indices.0) name
  pub descriptor_text : IsText (units_at pool indices.1) descriptor

-- the class of a name, as a type that is no array type (JVMS 4.4.1)
abbrev pub class_type : List ℕ → FieldType
class_type name = record { dims = 0; base = ClassBase name }

-- the text names the type: a class by its name, an array type by its descriptor (JVMS 4.4.1)
abbrev pub IsNameOfType : List ℕ → FieldType → Type 0
IsNameOfType text ty = (ty ≡ class_type text) ⊎ ((0 < ty.dims) × (text ≡ field_text ty))

-- the CONSTANT_Class at an index names this class or array type (JVMS 4.4.1)
abbrev pub IsTypeAt : List Entry → ℕ → FieldType → Type 0
IsTypeAt pool index ty = (text : List ℕ) × IsText (class_units_at pool index) text × IsFieldType ty
    × IsNameOfType text ty

-- a reference has such a name and a descriptor of this kind (JVMS 4.4.2)
pub record RefersRight (pool : List Entry) (class_index index : ℕ) (is_name : List ℕ → Bool)
    (IsDescriptor : List ℕ → Type 0) : Type 0 where
  pub class : (ty : FieldType) × IsTypeAt pool class_index ty
  pub name : List ℕ
  pub descriptor : List ℕ
  pub name_and_type : IsNameAndTypeAt pool index name descriptor
  pub named : IsTrue (is_name name)
  pub described : IsDescriptor descriptor

-- what an entry names is there (JVMS 4.4.1 to 4.4.3, 4.4.6)
abbrev pub NamesRight : List Entry → Entry → Type 0
NamesRight pool (entry.Class name_index) = (text : List ℕ) × IsText (units_at pool name_index) text × IsTypeText text
NamesRight pool (entry.Str string_index) = (units : List ℕ) × (units_at pool string_index ≡ Some units)
NamesRight pool (entry.NameAndType name_index descriptor_index) =
    (name : List ℕ) × (descriptor : List ℕ) × IsText (units_at pool name_index) name × IsTrue (is_method_name name)
    × IsText (units_at pool descriptor_index) descriptor × (IsFieldText descriptor ⊎ IsMethodText descriptor)
NamesRight pool (entry.Field class_index index) = RefersRight pool class_index index is_member_name IsFieldText
NamesRight pool (entry.Method class_index index) = RefersRight pool class_index index is_method_name IsMethodText
NamesRight pool
    (entry.InterfaceMethod class_index index) = RefersRight pool class_index index is_method_name IsMethodText
NamesRight pool _ = Unit {0}

-- the constants, counted by constant_pool_count, are a pool, which numbers them; a count of 0 is taken as 1 (JVMS 4.1)
pub record IsPool (count : ℕ) (constants : List CpInfo) (pool : List Entry) : Type 0 where
  pub entries : List Entry
  pub stand : AllZip IsConstant constants entries
  pub numbers : pool ≡ numbered entries
  pub count_fits : count < 2 ^ 16
  pub counted : length pool ≡ count - 1 + 1
  pub names : AllByRecursion (NamesRight pool) entries

-- ---- what other structures find in it

-- class_index and name_and_type_index of a CONSTANT_Fieldref; no other entry has them (JVMS 4.4.2)
abbrev pub fieldref_in : Entry → Option (ℕ × ℕ)
fieldref_in (entry.Field class_index index) = Some (class_index, index)
fieldref_in _ = None

-- the two indices of a CONSTANT_Methodref (JVMS 4.4.2)
abbrev pub methodref_in : Entry → Option (ℕ × ℕ)
methodref_in (entry.Method class_index index) = Some (class_index, index)
methodref_in _ = None

-- the two indices of a CONSTANT_InterfaceMethodref (JVMS 4.4.2)
abbrev pub interface_methodref_in : Entry → Option (ℕ × ℕ)
interface_methodref_in (entry.InterfaceMethod class_index index) = Some (class_index, index)
interface_methodref_in _ = None

-- an entry of the kind that refers_in tells is at the index, and is this reference (JVMS 4.4.2, 4.4.6)
pub record IsReferenceAt (refers_in : Entry → Option (ℕ × ℕ)) (pool : List Entry) (index : ℕ)
    (reference : MemberRef) : Type 0 where
  pub index_fits : index < 2 ^ 16
  pub indices : ℕ × ℕ
  pub entry : option_and_then refers_in (slice_get pool index) ≡ Some indices
  pub class : IsTypeAt pool indices.0 reference.class
  pub name_and_type : IsNameAndTypeAt pool indices.1 reference.name reference.ty

-- a CONSTANT_Fieldref at the index is this reference (JVMS 4.4.2)
abbrev pub IsFieldrefAt : List Entry → ℕ → MemberRef → Type 0
IsFieldrefAt pool index reference = IsReferenceAt fieldref_in pool index reference × (reference.of_interface ≡ false)

-- a CONSTANT_Methodref at the index is this reference (JVMS 4.4.2)
abbrev pub IsMethodrefAt : List Entry → ℕ → MemberRef → Type 0
IsMethodrefAt pool index reference = IsReferenceAt methodref_in pool index reference × (reference.of_interface ≡ false)

-- a CONSTANT_InterfaceMethodref at the index is this reference, which is marked as one of an interface (JVMS 4.4.2)
abbrev pub IsInterfaceMethodrefAt : List Entry → ℕ → MemberRef → Type 0
IsInterfaceMethodrefAt pool index reference = IsReferenceAt interface_methodref_in pool index reference
    × (reference.of_interface ≡ true)

-- the index of the text of a CONSTANT_String (JVMS 4.4.3)
abbrev pub string_index_in : Entry → Option ℕ
string_index_in (entry.Str string_index) = Some string_index
string_index_in _ = None

-- the units of the text that a CONSTANT_String at the index names (JVMS 4.4.3)
abbrev pub string_units_at : List Entry → ℕ → Option (List ℕ)
string_units_at pool index = option_and_then (units_at pool) (option_and_then string_index_in (slice_get pool index))

-- index 0 for no class, else the class that is named there (JVMS 4.7.3, catch_type)
abbrev pub IsOptionalClassAt : List Entry → ℕ → Option (List ℕ) → Type 0
IsOptionalClassAt pool index None = index ≡ 0
IsOptionalClassAt pool index (Some name) = IsClassAt pool index name
