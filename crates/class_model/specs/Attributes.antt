-- The attributes of a class file by their names, and those whose contents are short (JVMS 4.7).
use Rattle.std.specs.Prelude.{◌≡◌, ◌⊎◌, ℕ, ◌^◌, ◌<◌, Bool, true, false, List, [], ◌∷◌, ◌++◌, length, filter, Option}
use Rattle.std.specs.Prelude.{Some, None, nat_eq, codes, slice_get}
use Rattle.std.specs.Int.{w16, to_be_bytes}
use Rattle.std.specs.List.{AllByRecursion, AllZip, flat_map}
use Rattle.std.specs.Cmp.Lexicographic.{pointwise}
use Rattle.jv_base.specs.declared.types.FieldType.{FieldType}
use Rattle.jv_base.specs.declared.types.Base.{Base}
use Rattle.jv_base.specs.declared.types.Base.TheVariants as base
use Rattle.class_model.specs.declared.pool.Entry.{Entry}
use Rattle.class_model.specs.declared.pool.Entry.TheVariants as entry
use Rattle.class_model.specs.declared.class.Constant.{Constant}
use Rattle.class_model.specs.declared.class.Constant.TheVariants as constant
use Rattle.class_model.specs.Pool.{units_at, IsClassAt}
use Rattle.class_model.specs.Structure.{AttributeInfo}
use Rattle.class_model.specs.ConstantPool.{string_units_at}

-- ---- names of attributes

-- the units are those of a name, whose characters are ASCII (JVMS 4.7)
abbrev pub is_named : Option (List ℕ) → List ℕ → Bool
is_named (Some units) name = pointwise nat_eq units name
is_named None name = false

-- the attributes of a name (JVMS 4.7)
abbrev pub named : List Entry → List ℕ → List AttributeInfo → List AttributeInfo
named pool name attributes = filter
    (λ (a : AttributeInfo). is_named (units_at pool a.attribute_name_index) name) attributes

-- an attribute with any name, whose contents have a length (JVMS 4.7)
pub record IsAttribute (pool : List Entry) (a : AttributeInfo) : Type 0 where
  pub index_fits : a.attribute_name_index < 2 ^ 16
  pub name : List ℕ
  pub named : units_at pool a.attribute_name_index ≡ Some name
  pub length_fits : length a.info < 2 ^ 32

-- a list of attributes, each with a name (JVMS 4.7)
pub record AreAttributes (pool : List Entry) (attributes : List AttributeInfo) : Type 0 where
  pub count_fits : length attributes < 2 ^ 16
  pub each : AllByRecursion (IsAttribute pool) attributes

-- at most one attribute, whose contents stand for the value; with none there is no value (JVMS 4.7)
abbrev pub Single : {A : Type 0} → (List ℕ → A → Type 0) → List AttributeInfo → Option A → Type 0
Single Stands [] None = Unit {0}
Single Stands [] (Some x) = ⊥
Single Stands (a ∷ []) (Some x) = Stands a.info x
Single Stands (a ∷ []) None = ⊥
Single Stands (a ∷ b ∷ others) x = ⊥

-- at most one attribute, without contents: Synthetic and Deprecated (JVMS 4.7.8, 4.7.15)
abbrev pub IsMark : List AttributeInfo → Bool → Type 0
IsMark [] set = set ≡ false
IsMark (a ∷ []) set = (a.info ≡ []) × (set ≡ true)
IsMark (a ∷ b ∷ others) set = ⊥

-- ---- contents

-- SourceFile: the units of the text at its index (JVMS 4.7.10)
abbrev pub IsSourceFile : List Entry → List ℕ → List ℕ → Type 0
IsSourceFile pool info units = (index : ℕ) × (index < 2 ^ 16) × (info ≡ to_be_bytes w16 index)
    × (units_at pool index ≡ Some units)

-- Exceptions: classes by their indices (JVMS 4.7.5)
pub record IsExceptions (pool : List Entry) (info : List ℕ) (classes : List (List ℕ)) : Type 0 where
  pub indices : List ℕ
  pub is : info ≡ to_be_bytes w16 (length indices) ++ flat_map (to_be_bytes w16) indices
  pub count_fits : length indices < 2 ^ 16
  pub each : AllZip (IsClassAt pool) indices classes

-- no attribute Exceptions names no class (JVMS 4.7.5)
abbrev pub AreThrown : List Entry → List AttributeInfo → List (List ℕ) → Type 0
AreThrown pool [] classes = classes ≡ []
AreThrown pool (a ∷ []) classes = IsExceptions pool a.info classes
AreThrown pool (a ∷ b ∷ others) classes = ⊥

-- the type is this one (JVMS 4.3.2)
abbrev pub IsPlain : Base → FieldType → Type 0
IsPlain b ty = (ty.dims ≡ 0) × (ty.base ≡ b)

-- the types whose constants are ints (JVMS 4.7.2, table 4.7.2-A)
abbrev pub IsIntLike : FieldType → Type 0
IsIntLike ty = IsPlain base.Int ty ⊎ IsPlain base.Short ty ⊎ IsPlain base.Char ty ⊎ IsPlain base.Byte ty
    ⊎ IsPlain base.Boolean ty

-- the constant that a field of a type has by an entry of the pool; a float or a double is left out, and then there is
-- none (JVMS 4.7.2)
abbrev pub IsConstantOf : List Entry → ℕ → FieldType → Option Constant → Type 0
IsConstantOf pool index ty (Some (constant.Int n)) = IsIntLike ty × (slice_get pool index ≡ Some (entry.Integer n))
IsConstantOf pool index ty (Some (constant.Long n)) = IsPlain base.Long ty
    × (slice_get pool index ≡ Some (entry.Long n))
IsConstantOf pool index ty (Some (constant.Text units)) = IsPlain (base.Class (codes "java/lang/String")) ty
    × (string_units_at pool index ≡ Some units)
IsConstantOf pool index ty None =
    IsPlain base.Float ty × (slice_get pool index ≡ Some (entry.LeftOut 4))
    ⊎ IsPlain base.Double ty × (slice_get pool index ≡ Some (entry.LeftOut 6))

-- ConstantValue: a constant by its index (JVMS 4.7.2)
abbrev pub IsConstantValue : List Entry → FieldType → List ℕ → Option Constant → Type 0
IsConstantValue pool ty info value = (index : ℕ) × (index < 2 ^ 16) × (info ≡ to_be_bytes w16 index)
    × IsConstantOf pool index ty value

-- a static field has the constant of its attribute ConstantValue, of which there is at most one; elsewhere it is
-- dropped (JVMS 4.7.2)
abbrev pub AreConstants : List Entry → Bool → FieldType → List AttributeInfo → Option Constant → Type 0
AreConstants pool is_static ty [] value = value ≡ None
AreConstants pool true ty (a ∷ []) value = IsConstantValue pool ty a.info value
AreConstants pool false ty (a ∷ []) value = value ≡ None
AreConstants pool is_static ty (a ∷ b ∷ others) value = ⊥
