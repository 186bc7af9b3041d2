-- What the entries of a pool say, told by the constants of the canonical spelling (JVMS 4.4).
use Rattle.std.specs.Prelude.{◌≡◌, ℕ, ◌^◌, ◌<◌, List, Some, slice_get}
use Rattle.std.specs.List.{AllByRecursion}
use Rattle.class_model.specs.declared.pool.Entry.{Entry}
use Rattle.class_model.specs.declared.pool.Entry.TheVariants as entry
use Rattle.class_model.specs.declared.constant.PoolConstant.{PoolConstant}
use Rattle.class_model.specs.declared.constant.PoolConstant.TheVariants.{Utf8, Integer, Long, SecondOfLong, Class, Str}
use Rattle.class_model.specs.declared.constant.PoolConstant.TheVariants.{NameAndType, Fieldref, Methodref}
use Rattle.class_model.specs.declared.constant.PoolConstant.TheVariants.{InterfaceMethodref}
use Rattle.class_model.specs.declared.code.Ins.{Ins}
use Rattle.class_model.specs.CanonicalPool.{index_of}
use Rattle.class_model.specs.CanonicalCode.{op_constants}

module _ (entries : List Entry) (index : ℕ) where
  -- a CONSTANT_Utf8 of these units (JVMS 4.4.7)
  abbrev pub SaysUnits : List ℕ → Type 0
  SaysUnits units = slice_get entries index ≡ Some (entry.Utf8 units)

module _ (entries : List Entry) (index : ℕ) where
  -- a CONSTANT_Class of a name with these units (JVMS 4.4.1)
  abbrev pub SaysClass : List ℕ → Type 0
  SaysClass name = (name_index : ℕ) × (slice_get entries index ≡ Some (entry.Class name_index))
      × SaysUnits entries name_index name

  -- a CONSTANT_String of these units (JVMS 4.4.3)
  abbrev pub SaysString : List ℕ → Type 0
  SaysString units = (string_index : ℕ) × (slice_get entries index ≡ Some (entry.Str string_index))
      × SaysUnits entries string_index units

  -- a CONSTANT_NameAndType (JVMS 4.4.6)
  abbrev pub SaysNameAndType : List ℕ → List ℕ → Type 0
  SaysNameAndType name descriptor =
      (name_index : ℕ) × (descriptor_index : ℕ)
      × (slice_get entries index ≡ Some (entry.NameAndType name_index descriptor_index))
      × SaysUnits entries name_index name × SaysUnits entries descriptor_index descriptor

module _ (entries : List Entry) (index : ℕ) where
  -- a reference of the kind that made tells (JVMS 4.4.2)
  abbrev pub SaysReference : (ℕ → ℕ → Entry) → List ℕ → List ℕ → List ℕ → Type 0
  SaysReference made class name descriptor =
      (class_index : ℕ) × (name_and_type_index : ℕ)
      × (slice_get entries index ≡ Some (made class_index name_and_type_index))
      × SaysClass entries class_index class × SaysNameAndType entries name_and_type_index name descriptor

  -- the entry at the index says what the constant does; the second index of a long says nothing (JVMS 4.4.1 to 4.4.7)
  abbrev pub Says : PoolConstant → Type 0
  Says (Utf8 units) = SaysUnits entries index units
  Says (Integer n) = slice_get entries index ≡ Some (entry.Integer n)
  Says (Long n) = slice_get entries index ≡ Some (entry.Long n)
  Says (SecondOfLong n) = Unit {0}
  Says (Class name) = SaysClass entries index name
  Says (Str units) = SaysString entries index units
  Says (NameAndType name descriptor) = SaysNameAndType entries index name descriptor
  Says (Fieldref class name descriptor) = SaysReference entry.Field class name descriptor
  Says (Methodref class name descriptor) = SaysReference entry.Method class name descriptor
  Says (InterfaceMethodref class name descriptor) = SaysReference entry.InterfaceMethod class name descriptor

-- the entry at a constant's index in a pool says it, and the index has two bytes (JVMS 4.4)
abbrev pub IsSaid : List Entry → List PoolConstant → PoolConstant → Type 0
IsSaid entries pool k = (index_of pool k < 2 ^ 16) × Says entries (index_of pool k) k

-- so do those of all constants that the instructions name (JVMS 4.4)
abbrev pub AreSaid : List Entry → List PoolConstant → List Ins → Type 0
AreSaid entries pool ins = AllByRecursion (λ (i : Ins). AllByRecursion (IsSaid entries pool) (op_constants i.op)) ins
