-- The constants of a class, told by what they say, and their indices in its canonical pool
-- (the project's own: one pool for each class).
use Rattle.std.specs.Prelude.{ℕ, ◌+◌, ◌/◌, ◌%◌, ◌^◌, ℤ, Bool, false, ◌&&◌, ◌==◌, if◌then◌else◌, List, [], ◌∷◌, ◌++◌}
use Rattle.std.specs.Prelude.{nat_eq}
use Rattle.std.specs.Int.{w32, w64, cast_unsigned}
use Rattle.std.specs.List.{flat_map, position_or_len}
use Rattle.std.specs.Ordering.{int_eq}
use Rattle.std.specs.Cmp.Lexicographic.{pointwise}
use Rattle.indexmap.specs.IndexSet.{insert_all}
use Rattle.jv_base.specs.Mutf8.{mutf8}
use Rattle.jv_base.specs.Utf16.{units_of}
use Rattle.jv_base.specs.Types.{field_text}
use Rattle.jv_base.specs.declared.types.FieldType.{FieldType}
use Rattle.jv_base.specs.declared.types.Base.{Base}
use Rattle.jv_base.specs.declared.types.Base.TheVariants as base
use Rattle.class_model.specs.declared.constant.PoolConstant.{PoolConstant}
use Rattle.class_model.specs.declared.constant.PoolConstant.TheVariants.{Utf8, Integer, Long, SecondOfLong, Class, Str}
use Rattle.class_model.specs.declared.constant.PoolConstant.TheVariants.{NameAndType, Fieldref, Methodref}
use Rattle.class_model.specs.declared.constant.PoolConstant.TheVariants.{InterfaceMethodref}
use Rattle.class_model.specs.declared.op.MemberRef.{MemberRef}
use Rattle.class_model.specs.ConstantPool.{CpInfo, Utf8Info, IntegerInfo, LongInfo, ClassInfo, StringInfo, FieldrefInfo}
use Rattle.class_model.specs.ConstantPool.{MethodrefInfo, InterfaceMethodrefInfo, NameAndTypeInfo}

-- equal unit by unit (JVMS 4.4.7)
abbrev pub same_text : List ℕ → List ℕ → Bool
same_text one other = pointwise nat_eq one other

-- the constants are one (JVMS 4.4)
abbrev pub same : PoolConstant → PoolConstant → Bool
same (Utf8 a) (Utf8 b) = same_text a b
same (Integer a) (Integer b) = int_eq a b
same (Long a) (Long b) = int_eq a b
same (SecondOfLong a) (SecondOfLong b) = int_eq a b
same (Class a) (Class b) = same_text a b
same (Str a) (Str b) = same_text a b
same (NameAndType a b) (NameAndType c d) = same_text a c && same_text b d
same (Fieldref a b c) (Fieldref d e f) = same_text a d && (same_text b e && same_text c f)
same (Methodref a b c) (Methodref d e f) = same_text a d && (same_text b e && same_text c f)
same (InterfaceMethodref a b c) (InterfaceMethodref d e f) = same_text a d && (same_text b e && same_text c f)
same _ _ = false

-- ---- a constant with its parts, in the order of their items, directly before it

-- a name or a descriptor, which has no parts (JVMS 4.4.7)
abbrev pub text_constants : List ℕ → List PoolConstant
text_constants text = Utf8 (units_of text) ∷ []

-- a class by its name, an array type by its descriptor (JVMS 4.4.1)
abbrev pub type_name_of_base : FieldType → Base → List ℕ
type_name_of_base ty (base.Class name) = if ty.dims == 0 then name else field_text ty
type_name_of_base ty _ = field_text ty

-- the name in the CONSTANT_Class of a class or an array type (JVMS 4.4.1)
abbrev pub type_name : FieldType → List ℕ
type_name ty = type_name_of_base ty ty.base

-- a CONSTANT_Class of this name alone, without its part (JVMS 4.4.1)
abbrev pub class_constant : List ℕ → PoolConstant
class_constant name = Class (units_of name)

-- a CONSTANT_Class behind the text of its name (JVMS 4.4.1)
abbrev pub class_constants : List ℕ → List PoolConstant
class_constants name = Utf8 (units_of name) ∷ Class (units_of name) ∷ []

-- a CONSTANT_String behind its text, whose units are kept as they are (JVMS 4.4.3)
abbrev pub string_constants : List ℕ → List PoolConstant
string_constants units = Utf8 units ∷ Str units ∷ []

-- a CONSTANT_Long and, behind it, the second index that it takes (JVMS 4.4.5)
abbrev pub long_constants : ℤ → List PoolConstant
long_constants value = Long value ∷ SecondOfLong value ∷ []

-- a CONSTANT_NameAndType behind the texts of its name and its descriptor (JVMS 4.4.6)
abbrev pub name_and_type_constants : List ℕ → List ℕ → List PoolConstant
name_and_type_constants name descriptor =
    Utf8 (units_of name) ∷ Utf8 (units_of descriptor) ∷ NameAndType (units_of name) (units_of descriptor) ∷ []

-- a reference to a field, without its parts (JVMS 4.4.2)
abbrev pub fieldref : MemberRef → PoolConstant
fieldref reference = Fieldref (units_of (type_name reference.class)) (units_of reference.name) (units_of reference.ty)

-- a reference to a method, without its parts: which of the two it is, is told by whether its class is an interface
-- (JVMS 4.4.2)
abbrev pub methodref : MemberRef → PoolConstant
methodref reference =
    if reference.of_interface then InterfaceMethodref (units_of (type_name reference.class)) (units_of reference.name)
    (units_of reference.ty)
    else Methodref (units_of (type_name reference.class)) (units_of reference.name) (units_of reference.ty)

-- this constant of a reference behind its class and its name and type (JVMS 4.4.2, 4.4.6)
abbrev pub with_parts : MemberRef → PoolConstant → List PoolConstant
with_parts reference k = class_constants (type_name reference.class) ++
    (name_and_type_constants reference.name reference.ty ++ k ∷ [])

-- ---- the pool

-- the constants from index 1 on: each of those that are wanted once, where it is wanted first
unfoldable pub filled : List PoolConstant → List PoolConstant
filled wanted = insert_all same [] wanted

-- the index of a constant (JVMS 4.1, 4.4)
abbrev pub index_of : List PoolConstant → PoolConstant → ℕ
index_of pool k = 1 + position_or_len (same k) pool

-- a constant as it is written (JVMS 4.4.1 to 4.4.7)
abbrev pub info_of : List PoolConstant → PoolConstant → List CpInfo
info_of pool (Utf8 text) = Utf8Info (mutf8 text) ∷ []
info_of pool (Integer value) = IntegerInfo (cast_unsigned w32 value) ∷ []
info_of pool (Long value) = LongInfo (cast_unsigned w64 value / 2 ^ 32) (cast_unsigned w64 value % 2 ^ 32) ∷ []
info_of pool (SecondOfLong value) = []
info_of pool (Class name) = ClassInfo (index_of pool (Utf8 name)) ∷ []
info_of pool (Str text) = StringInfo (index_of pool (Utf8 text)) ∷ []
info_of pool (NameAndType name descriptor) = NameAndTypeInfo (index_of pool (Utf8 name))
    (index_of pool (Utf8 descriptor)) ∷ []
info_of pool (Fieldref class name descriptor) = FieldrefInfo (index_of pool (Class class))
    (index_of pool (NameAndType name descriptor)) ∷ []
info_of pool (Methodref class name descriptor) = MethodrefInfo (index_of pool (Class class))
    (index_of pool (NameAndType name descriptor)) ∷ []
info_of pool (InterfaceMethodref class name descriptor) =
    InterfaceMethodrefInfo (index_of pool (Class class)) (index_of pool (NameAndType name descriptor)) ∷ []

-- the constant_pool table; the second index of a CONSTANT_Long has no item there (JVMS 4.4, 4.4.5)
abbrev pub infos_of : List PoolConstant → List CpInfo
infos_of pool = flat_map (info_of pool) pool
