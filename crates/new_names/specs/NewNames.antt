-- What a mapping calls classes and members (ProGuard manual, "ReTrace", the mapping file): a line tells the old name
-- and the new one. Of several lines for one class or member the first counts (the project's own).
use Rattle.std.specs.Prelude.{◌≡◌, ℕ, List, [], map, ◌&&◌, Bool, Option, Some, None}
use Rattle.std.specs.List.{flat_map}
use Rattle.std.specs.Map.{lookup}
use Rattle.std.specs.Option.{option_and_then, option_map, unwrap_or}
use Rattle.jv_base.specs.Names.{is_text}
use Rattle.jv_base.specs.Types.{field_text, method_text}
use Rattle.class_model.specs.declared.class.Class.{Class}
use Rattle.class_model.specs.declared.class.Field.{Field}
use Rattle.class_model.specs.declared.class.Method.{Method}
use Rattle.class_rename.specs.Names.{MethodName, Names, Tables, is_same_method}
use Rattle.mapping_file.specs.declared.mapping.MapClass.{MapClass}
use Rattle.mapping_file.specs.declared.mapping.MapField.{MapField}
use Rattle.mapping_file.specs.declared.mapping.MapMethod.{MapMethod}
use Rattle.mapping_file.specs.declared.mapping.Mapping.{Mapping}
use Rattle.mapping_file.specs.declared.mapping.Range.{Range}
use Rattle.new_names.specs.declared.class_names.ClassNames.{ClassNames}

-- ---- lines

-- a name and a descriptor, by which a class tells its members apart (JVMS 4.3)
abbrev pub NameAndType : Type 0
NameAndType = List ℕ × List ℕ

-- two are the same
abbrev pub is_same : NameAndType → NameAndType → Bool
is_same a b = is_text a.0 b.0 && is_text a.1 b.1

-- the lines of classes by their old names
abbrev pub class_lines : List MapClass → List (List ℕ × MapClass)
class_lines lines = map (λ l. (l.old, l)) lines

-- the line of the class with an old name
abbrev pub class_line : Mapping → List ℕ → Option MapClass
class_line mapping name = lookup (λ old. is_text old name) (class_lines mapping.classes)

-- the new names of fields by their old names and descriptors
abbrev pub field_lines : List MapField → List (NameAndType × List ℕ)
field_lines lines = map (λ l. ((l.old, field_text l.ty), l.new)) lines

-- the new names of methods by their old names and descriptors
abbrev pub method_lines : List MapMethod → List (NameAndType × List ℕ)
method_lines lines = map (λ l. ((l.old, method_text l.ty), l.new)) lines

-- ---- the new names of a class and its members

-- the new name of a class; none where it has no line
abbrev pub new_class : Mapping → List ℕ → Option (List ℕ)
new_class mapping name = option_map (λ l. l.new) (class_line mapping name)

-- the new name of a field by the line of its class
abbrev pub field_in : MapClass → Field → Option (List ℕ)
field_in l f = lookup (λ key. is_same key (f.name, field_text f.ty)) (field_lines l.fields)

-- the new name of a method by the line of its class
abbrev pub method_in : MapClass → Method → Option (List ℕ)
method_in l m = lookup (λ key. is_same key (m.name, method_text m.ty)) (method_lines l.methods)

-- the ranges of methods by their old names and descriptors
abbrev pub range_lines : List MapMethod → List (NameAndType × Option Range)
range_lines lines = map (λ l. ((l.old, method_text l.ty), l.lines)) lines

-- the range of a method by the line of its class, if it has one
abbrev pub range_in : MapClass → Method → Option Range
range_in l m =
    option_and_then (λ range. range) (lookup (λ key. is_same key (m.name, method_text m.ty)) (range_lines l.methods))

-- the new name of a field of a class; none where it has no line
abbrev pub new_field : Mapping → Class → Field → Option (List ℕ)
new_field mapping c f = option_and_then (λ l. field_in l f) (class_line mapping c.name)

-- the new name of a method of a class; none where it has no line
abbrev pub new_method : Mapping → Class → Method → Option (List ℕ)
new_method mapping c m = option_and_then (λ l. method_in l m) (class_line mapping c.name)

-- the new names of a class and of its members, in their order
abbrev pub names_given : Mapping → Class → ClassNames
names_given mapping c = record {
  class = new_class mapping c.name;
  fields = map (new_field mapping c) c.fields;
  methods = map (new_method mapping c) c.methods;
}

-- ---- names wherever they stand

-- the old and the new names of the fields that have lines
abbrev pub field_names : List MapField → List (List ℕ × List ℕ)
field_names lines = map (λ l. (l.old, l.new)) lines

-- those of the fields of all classes
abbrev pub all_field_names : List MapClass → List (List ℕ × List ℕ)
all_field_names lines = flat_map (λ l. field_names l.fields) lines

-- the new names of the methods of all classes, by their old names and descriptors
abbrev pub all_method_names : List MapClass → List (NameAndType × List ℕ)
all_method_names lines = flat_map (λ l. method_lines l.methods) lines

-- the new name behind an old one; a name that is none of the old ones stays
abbrev pub renamed_by : List (List ℕ × List ℕ) → List ℕ → List ℕ
renamed_by names name = unwrap_or (lookup (λ old. is_text old name) names) name

-- that of a method; one that is none of the old ones stays
abbrev pub method_renamed_by : List (NameAndType × List ℕ) → NameAndType → List ℕ
method_renamed_by names m = unwrap_or (lookup (λ old. is_same old m) names) m.0

-- the names that a mapping gives, those of methods by name and descriptor; one without a line stays (the project's own:
-- names of the library have no lines)
abbrev pub names_of : Mapping → Names
names_of mapping = record {
  class = λ name. unwrap_or (new_class mapping name) name;
  field = renamed_by (all_field_names mapping.classes);
  method = λ name descriptor. method_renamed_by (all_method_names mapping.classes) (name, descriptor);
}

-- ---- an earlier mapping (ProGuard manual, "-applymapping")

-- the old and the new names of classes
abbrev pub class_names : List MapClass → List (List ℕ × List ℕ)
class_names lines = map (λ l. (l.old, l.new)) lines

-- the names that it gives, if there is one
abbrev pub tables_of : Option Mapping → Tables
tables_of None = record { classes = []; fields = []; methods = [] }
tables_of (Some mapping) = record {
  classes = class_names mapping.classes;
  fields = all_field_names mapping.classes;
  methods = all_method_names mapping.classes;
}

-- two tables tell one name of each class, of each field's name, and of each method's name and descriptor
pub record AreAlike (s t : Tables) : Type 0 where
  pub classes : (a : List ℕ) → lookup (is_text a) s.classes ≡ lookup (is_text a) t.classes
  pub fields : (a : List ℕ) → lookup (is_text a) s.fields ≡ lookup (is_text a) t.fields
  pub methods : (m : MethodName) → lookup (is_same_method m) s.methods ≡ lookup (is_same_method m) t.methods
