-- Places of a pair of programs, as they are told: the class with dots, the member as a mapping file has it (ProGuard
-- manual, "ReTrace", the mapping file; JLS 13.1).
use Rattle.std.specs.Prelude.{ℕ, Bool, List, ◌∷◌, ◌++◌, map, Option, Some, None, codes, if◌then◌else◌, Result, Ok, Err}
use Rattle.std.specs.List.{flat_map}
use Rattle.jv_base.specs.External.{dotted, external_text}
use Rattle.jv_base.specs.declared.descriptors.BadDescriptor.{BadDescriptor}
use Rattle.jv_base.specs.declared.types.FieldType.{FieldType}
use Rattle.jv_base.specs.declared.types.MethodType.{MethodType}
use Rattle.class_model.specs.declared.class.Class.{Class}
use Rattle.class_model.specs.declared.class.Field.{Field}
use Rattle.class_model.specs.declared.class.Method.{Method}
use Rattle.text_lines.specs.Members.{method_text}
use Rattle.pair_clauses.specs.declared.place.Place.{Place}

-- a type and a name, as `int x`
abbrev pub field_text : FieldType → List ℕ → List ℕ
field_text ty name = external_text ty ++ (codes " " ++ name)

-- a class by its name in internal form
abbrev pub class_place : List ℕ → Place
class_place class = record { class = dotted class; member = None }

-- a field of the class
abbrev pub field_place : List ℕ → FieldType → List ℕ → Place
field_place class ty name = record { class = dotted class; member = Some (field_text ty name) }

-- a method of the class
abbrev pub method_place : List ℕ → MethodType → List ℕ → Place
method_place class ty name = record { class = dotted class; member = Some (method_text ty name) }

-- a field that the class declares
abbrev pub place_of_field : Class → Field → Place
place_of_field c f = field_place c.name f.ty f.name

-- a method that the class declares
abbrev pub place_of_method : Class → Method → Place
place_of_method c m = method_place c.name m.ty m.name

-- a class and its members, in the order of their items
abbrev pub places_in : Class → List Place
places_in c = class_place c.name ∷ (map (place_of_field c) c.fields ++ map (place_of_method c) c.methods)

-- all items of a set, in their order
abbrev pub item_places : List Class → List Place
item_places classes = flat_map places_in classes

-- a method by the type that its descriptor spells; a text that spells none stands as it is behind the name
abbrev pub described_text : List ℕ → List ℕ → Result MethodType BadDescriptor → List ℕ
described_text name text (Ok ty) = method_text ty name
described_text name text (Err bad) = name ++ text

-- the place where it is at fault
abbrev pub place_if : Bool → Place → Option Place
place_if at_fault place = if at_fault then Some place else None
