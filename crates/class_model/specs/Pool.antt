-- What an index of the constant pool leads to: texts, and names of classes (JVMS 4.4.1, 4.4.7).
use Rattle.std.specs.Prelude.{◌≡◌, ◌⊎◌, ℕ, ◌^◌, ◌<◌, List, slice_get, Option, Some, None, option_and_then, IsTrue}
use Rattle.std.specs.Prelude.{IsUtf8}
use Rattle.jv_base.specs.Names.{is_class_name}
use Rattle.jv_base.specs.Utf16.{units_of}
use Rattle.jv_base.specs.Types.{field_text, IsFieldType}
use Rattle.jv_base.specs.declared.types.FieldType.{FieldType}
use Rattle.class_model.specs.declared.pool.Entry.{Entry}
use Rattle.class_model.specs.declared.pool.Entry.TheVariants as entry

-- the units of a CONSTANT_Utf8 (JVMS 4.4.7)
abbrev pub units_in : Entry → Option (List ℕ)
units_in (entry.Utf8 units) = Some units
units_in _ = None

-- the name_index of a CONSTANT_Class (JVMS 4.4.1)
abbrev pub name_index_in : Entry → Option ℕ
name_index_in (entry.Class name_index) = Some name_index
name_index_in _ = None

-- the units of the CONSTANT_Utf8 at an index (JVMS 4.4.7)
abbrev pub units_at : List Entry → ℕ → Option (List ℕ)
units_at pool index = option_and_then units_in (slice_get pool index)

-- the units of the text that the CONSTANT_Class at an index names (JVMS 4.4.1)
abbrev pub class_units_at : List Entry → ℕ → Option (List ℕ)
class_units_at pool index = option_and_then (units_at pool) (option_and_then name_index_in (slice_get pool index))

-- the units are those of this text (JVMS 4.4.7)
abbrev pub IsText : Option (List ℕ) → List ℕ → Type 0
IsText units text = IsUtf8 text × (units ≡ Some (units_of text))

-- a CONSTANT_Utf8 at the index holds this text (JVMS 4.4.7)
abbrev pub IsTextAt : List Entry → ℕ → List ℕ → Type 0
IsTextAt pool index text = (index < 2 ^ 16) × IsText (units_at pool index) text

-- a CONSTANT_Class at the index names this class, which isn't an array type (JVMS 4.1 of this_class and super_class)
abbrev pub IsClassAt : List Entry → ℕ → List ℕ → Type 0
IsClassAt pool index name = (index < 2 ^ 16) × IsText (class_units_at pool index) name × IsTrue (is_class_name name)

-- the descriptor of an array type (JVMS 4.3.2)
abbrev pub IsArrayText : List ℕ → Type 0
IsArrayText text = (ty : FieldType) × IsFieldType ty × (0 < ty.dims) × (text ≡ field_text ty)

-- what a CONSTANT_Class may name: a class by its name, an array type by its descriptor (JVMS 4.4.1)
abbrev pub IsTypeText : List ℕ → Type 0
IsTypeText text = IsTrue (is_class_name text) ⊎ IsArrayText text
