-- What is found at an index of the pool, or why not; and what a text says (JVMS 4.3, 4.4).
use Rattle.std.specs.Prelude.{ℕ, Bool, true, false, ◌||◌, List, [], ◌∷◌, slice_get, Option, Some, None, is_some}
use Rattle.std.specs.Prelude.{option_map, option_and_then, encode_utf8_all, Result, Ok, Err, ◌==◌, if◌then◌else◌}
use Rattle.std.specs.Char.Utf16.{utf16_chars}
use Rattle.jv_base.specs.Outcome.{◌>>=◌}
use Rattle.jv_base.specs.Names.{is_class_name, is_member_name, is_method_name}
use Rattle.jv_base.specs.Descriptors.{read_field, read_method}
use Rattle.jv_base.specs.declared.types.FieldType.{FieldType}
use Rattle.jv_base.specs.declared.types.MethodType.{MethodType}
use Rattle.format_reading.specs.declared.fault.FormatKind.{FormatKind}
use Rattle.format_reading.specs.declared.fault.FormatKind.TheVariants as bad
use Rattle.class_model.specs.declared.pool.Entry.{Entry}
use Rattle.class_model.specs.declared.pool.Entry.TheVariants as entry
use Rattle.class_model.specs.declared.op.MemberRef.{MemberRef}
use Rattle.class_model.specs.Pool.{units_at, class_units_at, name_index_in}
use Rattle.class_model.specs.ConstantPool.{class_type, name_and_type_at, fieldref_in, methodref_in}
use Rattle.class_model.specs.ConstantPool.{interface_methodref_in}

-- ---- a value, or a kind of fault (the project's own: which fault is due)

-- a value that has to be there, else a fault of the kind
abbrev pub due : {A : Type 0} → FormatKind → Option A → Result A FormatKind
due kind (Some x) = Ok x
due kind None = Err kind

-- a test that has to pass
abbrev pub test : FormatKind → Bool → Result (Unit {0}) FormatKind
test kind passed = if passed then Ok tt else Err kind

-- the value alone, where why there is none does not matter
abbrev pub value_of : {A X : Type 0} → Result A X → Option A
value_of (Ok x) = Some x
value_of (Err e) = None

-- ---- texts

-- one before the others, if it and they are there (the project's own: a text is all of its characters)
abbrev pub with_first : {A : Type 0} → Option A → Option (List A) → Option (List A)
with_first (Some x) (Some xs) = Some (x ∷ xs)
with_first _ _ = None

-- all of them, if each is there (the project's own: a text is all of its characters)
abbrev pub all_there : {A : Type 0} → List (Option A) → Option (List A)
all_there [] = Some []
all_there (x ∷ xs) = with_first x (all_there xs)

-- the text of units, in which no surrogate is unpaired (JVMS 4.4.7)
unfoldable pub text_of : List ℕ → Option (List ℕ)
text_of units = option_map encode_utf8_all (all_there (utf16_chars units))

-- the type that a field descriptor tells (JVMS 4.3.2)
abbrev pub field_type_of : List ℕ → Option FieldType
field_type_of text = value_of (read_field text)

-- the types of arguments and result that a method descriptor tells (JVMS 4.3.3)
abbrev pub method_type_of : List ℕ → Option MethodType
method_type_of text = value_of (read_method text)

-- an array type (JVMS 4.3.2)
abbrev pub only_array : FieldType → Option FieldType
only_array ty = if ty.dims == 0 then None else Some ty

-- the type that a text names: a class by its name, an array type by its descriptor (JVMS 4.4.1)
abbrev pub named_type : List ℕ → Option FieldType
named_type text = if is_class_name text then Some (class_type text) else option_and_then only_array (field_type_of text)

-- ---- what an index leads to

-- a text; one with an unpaired surrogate is a fault of the kind (JVMS 4.4.7)
abbrev pub text_at : FormatKind → List Entry → ℕ → Result (List ℕ) FormatKind
text_at kind pool index = do
  units ← due bad.BadIndex (units_at pool index)
  due kind (text_of units)

-- a text that passes a test, else a fault of the kind (JVMS 4.2, 4.4.7)
abbrev pub good_text_at : FormatKind → (List ℕ → Bool) → List Entry → ℕ → Result (List ℕ) FormatKind
good_text_at kind passes pool index = do
  text ← text_at kind pool index
  good ← test kind (passes text)
  Ok text

-- the name of a class that isn't an array type (JVMS 4.4.1)
unfoldable pub class_at : List Entry → ℕ → Result (List ℕ) FormatKind
class_at pool index = do
  units ← due bad.BadIndex (class_units_at pool index)
  text ← due bad.BadName (text_of units)
  named ← test bad.BadName (is_class_name text)
  Ok text

-- none at index 0 (JVMS 4.7.3, catch_type)
unfoldable pub optional_class_at : List Entry → ℕ → Result (Option (List ℕ)) FormatKind
optional_class_at pool index = if index == 0 then Ok None else (do
  name ← class_at pool index
  Ok (Some name))

-- the class or array type that a CONSTANT_Class names (JVMS 4.4.1)
unfoldable pub type_at : List Entry → ℕ → Option FieldType
type_at pool index = option_and_then named_type (option_and_then text_of (class_units_at pool index))

-- ---- references

-- a reference whose class, name and descriptor were all found; of_interface tells a CONSTANT_InterfaceMethodref
-- (JVMS 4.4.2)
abbrev pub reference : Bool → Option FieldType → Option (List ℕ) → Option (List ℕ) → Option MemberRef
reference of_interface (Some class) (Some name) (Some ty) = Some
    (record { class = class; name = name; ty = ty; of_interface = of_interface })
reference of_interface _ _ _ = None

-- the text of the CONSTANT_Utf8 at an index, if it has no unpaired surrogate (JVMS 4.4.7)
abbrev pub text_there : List Entry → ℕ → Option (List ℕ)
text_there pool index = option_and_then text_of (units_at pool index)

-- a reference by the index of its class and by the two of its CONSTANT_NameAndType (JVMS 4.4.2, 4.4.6)
abbrev pub reference_of : Bool → List Entry → ℕ → ℕ × ℕ → Option MemberRef
reference_of of_interface pool class_index indices =
    reference of_interface (type_at pool class_index) (text_there pool indices.0) (text_there pool indices.1)

-- the reference that an entry of the kind that refers_in tells is (JVMS 4.4.2)
abbrev pub reference_at : (Entry → Option (ℕ × ℕ)) → Bool → List Entry → ℕ → Option MemberRef
reference_at refers_in of_interface pool index =
    option_and_then (λ (two : ℕ × ℕ). option_and_then (reference_of of_interface pool two.0)
    (name_and_type_at pool two.1))
    (option_and_then refers_in (slice_get pool index))

-- by a CONSTANT_Fieldref (JVMS 4.4.2)
unfoldable pub fieldref_at : List Entry → ℕ → Option MemberRef
fieldref_at pool index = reference_at fieldref_in false pool index

-- by a CONSTANT_Methodref (JVMS 4.4.2)
unfoldable pub methodref_at : List Entry → ℕ → Option MemberRef
methodref_at pool index = reference_at methodref_in false pool index

-- by a CONSTANT_InterfaceMethodref (JVMS 4.4.2)
unfoldable pub interface_methodref_at : List Entry → ℕ → Option MemberRef
interface_methodref_at pool index = reference_at interface_methodref_in true pool index

-- ---- what an entry names (JVMS 4.4)

-- a field descriptor (JVMS 4.3.2)
abbrev pub is_field_text : List ℕ → Bool
is_field_text text = is_some (field_type_of text)

-- a method descriptor (JVMS 4.3.3)
abbrev pub is_method_text : List ℕ → Bool
is_method_text text = is_some (method_type_of text)

-- either of them, as a CONSTANT_NameAndType may have it (JVMS 4.4.6)
abbrev pub is_descriptor : List ℕ → Bool
is_descriptor text = is_field_text text || is_method_text text

-- a test of a text that may be missing: then it fails (JVMS 4.2, 4.3)
abbrev pub passing : (List ℕ → Bool) → Option (List ℕ) → Bool
passing passes (Some text) = passes text
passing passes None = false

-- a text of a name and type passes a test, where its index leads to one; else that entry is at fault at its own place
-- (JVMS 4.4.6; which entry is at fault is the project's own)
abbrev pub test_of_units : FormatKind → (List ℕ → Bool) → Option (List ℕ) → Result (Unit {0}) FormatKind
test_of_units kind passes (Some units) = test kind (passing passes (text_of units))
test_of_units kind passes None = Ok tt

-- the tags of both entries come first, then the name, then the descriptor
-- (JVMS 4.4.2, 4.4.6; the order of faults is the project's own)
abbrev pub refers_right : (List ℕ → Bool) → (List ℕ → Bool) → List Entry → ℕ → ℕ → Result (Unit {0}) FormatKind
refers_right is_name is_described pool class_index index = do
  class ← due bad.BadIndex (option_and_then name_index_in (slice_get pool class_index))
  indices ← due bad.BadIndex (name_and_type_at pool index)
  named ← test_of_units bad.BadName is_name (units_at pool indices.0)
  test_of_units bad.BadDescriptor is_described (units_at pool indices.1)

-- the first thing that an entry names and that isn't there, or isn't what it has to be (JVMS 4.4)
unfoldable pub names_right : List Entry → Entry → Result (Unit {0}) FormatKind
names_right pool (entry.Class name_index) = do
  text ← text_at bad.BadName pool name_index
  test bad.BadName (is_some (named_type text))
names_right pool (entry.Str string_index) = do
  units ← due bad.BadIndex (units_at pool string_index)
  Ok tt
names_right pool (entry.NameAndType name_index descriptor_index) = do
  name ← good_text_at bad.BadName is_method_name pool name_index
  descriptor ← good_text_at bad.BadDescriptor is_descriptor pool descriptor_index
  Ok tt
names_right pool (entry.Field class_index index) = refers_right is_member_name is_field_text pool class_index index
names_right pool (entry.Method class_index index) = refers_right is_method_name is_method_text pool class_index index
names_right pool
    (entry.InterfaceMethod class_index index) = refers_right is_method_name is_method_text pool class_index index
names_right pool _ = Ok tt
