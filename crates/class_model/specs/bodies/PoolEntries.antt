-- The entries that the constants of a pool are read as (only the proof of canonical_spells_the_class needs it).
use Rattle.std.specs.Prelude.{◌≡◌, ◌^◌, ◌<◌, ℤ, [], ◌∷◌, true, List, length, map, Option, Some, None}
use Rattle.std.specs.Int.{w32, w64}
use Rattle.std.specs.Int.RustNames.{FitsSigned}
use Rattle.std.specs.List.{list_any}
use Rattle.jv_base.specs.Mutf8.{mutf8, IsUnits}
use Rattle.class_model.specs.declared.pool.Entry.{Entry}
use Rattle.class_model.specs.declared.pool.Entry.TheVariants as entry
use Rattle.class_model.specs.declared.constant.PoolConstant.{PoolConstant}
use Rattle.class_model.specs.declared.constant.PoolConstant.TheVariants.{Utf8, Integer, Long, SecondOfLong, Class, Str}
use Rattle.class_model.specs.declared.constant.PoolConstant.TheVariants.{NameAndType, Fieldref, Methodref}
use Rattle.class_model.specs.declared.constant.PoolConstant.TheVariants.{InterfaceMethodref}
use Rattle.class_model.specs.CanonicalPool.{same, index_of}

-- a constant, its parts by their indices (JVMS 4.4)
abbrev pub entry_of : List PoolConstant → PoolConstant → Entry
entry_of pool (Utf8 text) = entry.Utf8 text
entry_of pool (Integer value) = entry.Integer value
entry_of pool (Long value) = entry.Long value
entry_of pool (SecondOfLong value) = entry.Gap
entry_of pool (Class name) = entry.Class (index_of pool (Utf8 name))
entry_of pool (Str text) = entry.Str (index_of pool (Utf8 text))
entry_of pool (NameAndType name descriptor) = entry.NameAndType (index_of pool (Utf8 name))
    (index_of pool (Utf8 descriptor))
entry_of pool (Fieldref class name descriptor) = entry.Field (index_of pool (Class class))
    (index_of pool (NameAndType name descriptor))
entry_of pool (Methodref class name descriptor) = entry.Method (index_of pool (Class class))
    (index_of pool (NameAndType name descriptor))
entry_of pool (InterfaceMethodref class name descriptor) =
    entry.InterfaceMethod (index_of pool (Class class)) (index_of pool (NameAndType name descriptor))

-- all of them, from index 1 on (JVMS 4.1)
abbrev pub entries_of : List PoolConstant → List Entry
entries_of pool = entry.Gap ∷ map (entry_of pool) pool

-- the constant is in the pool
abbrev pub Has : List PoolConstant → PoolConstant → Type 0
Has pool k = list_any (same k) pool ≡ true

-- ---- what a pool has to be so that it is read as these entries

-- a text is one of UTF-16 units and not too long, a number is in its range (JVMS 4.4.4, 4.4.5, 4.4.7)
abbrev pub ConstantFits : PoolConstant → Type 0
ConstantFits (Utf8 text) = IsUnits text × (length (mutf8 text) < 2 ^ 16)
ConstantFits (Integer value) = FitsSigned w32 value
ConstantFits (Long value) = FitsSigned w64 value
ConstantFits _ = Unit {0}

-- the long that a constant begins, whose second index is to come (JVMS 4.4.5)
abbrev pub begun_by : PoolConstant → Option ℤ
begun_by (Long value) = Some value
begun_by _ = None

-- a second index stands behind no other constant
abbrev pub IsFirst : PoolConstant → Type 0
IsFirst (SecondOfLong value) = ⊥
IsFirst _ = Unit {0}

-- behind each long, and nowhere else, stands its second index (JVMS 4.4.5)
abbrev pub ArePaired : Option ℤ → List PoolConstant → Type 0
ArePaired None [] = Unit {0}
ArePaired (Some value) [] = ⊥
ArePaired None (k ∷ ks) = IsFirst k × ArePaired (begun_by k) ks
ArePaired (Some value) (k ∷ ks) = (k ≡ SecondOfLong value) × ArePaired None ks
