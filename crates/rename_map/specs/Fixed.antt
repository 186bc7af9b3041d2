-- Names that stay by rules (ProGuard manual, "Keep Options", "-keepnames", "includedescriptorclasses").
use Rattle.std.specs.Prelude.{ℕ, ◌+◌, Bool, List, [], ◌∷◌, ◌++◌, length, map, Option, Some, None}
use Rattle.std.specs.Prelude.{if◌then◌else◌, slice_index_or}
use Rattle.std.specs.List.{enumerate_from, flat_map}
use Rattle.jv_base.specs.declared.types.Base.{Base}
use Rattle.jv_base.specs.declared.types.Base.TheVariants as base
use Rattle.jv_base.specs.declared.types.FieldType.{FieldType}
use Rattle.jv_base.specs.declared.types.MethodType.{MethodType}
use Rattle.jv_base.specs.Types.{method_text}
use Rattle.class_model.specs.declared.class.Class.{Class}
use Rattle.class_model.specs.declared.class.Field.{Field}
use Rattle.class_model.specs.declared.class.Method.{Method}
use Rattle.class_rename.specs.Names.{MethodName}
use Rattle.keep_rules.specs.declared.rules.Rules.{Rules}
use Rattle.keep_match.specs.Fixed.{fixed_rows}
use Rattle.keep_match.specs.declared.fixed.Fixes.TheVariants as fixes
use Rattle.member_shrink.specs.Shrunk.{chosen, is_marked}
use Rattle.rename_map.specs.declared.gathering.Chosen.{Chosen}
use Rattle.rename_map.specs.declared.gathering.Chosen.TheVariants as choose
use Rattle.rename_map.specs.declared.telling.Told.{Told}
use Rattle.rename_map.specs.declared.telling.Told.TheVariants as told
use Rattle.fresh_names.specs.Reserved.{reserved}
use Rattle.fresh_names.specs.declared.taken.Named.TheVariants as named

-- ---- what members tell

-- the class of a type, or of the elements of an array type (JVMS 4.3.2)
abbrev pub base_classes : Base → List (List ℕ)
base_classes (base.Class name) = name ∷ []
base_classes _ = []

abbrev pub type_classes : FieldType → List (List ℕ)
type_classes ty = base_classes ty.base

-- the class of a result, where there is one (JVMS 4.3.3)
abbrev pub result_classes : Option FieldType → List (List ℕ)
result_classes None = []
result_classes (Some ty) = type_classes ty

-- those of the parameters and of the result (JVMS 4.3.3)
abbrev pub method_type_classes : MethodType → List (List ℕ)
method_type_classes ty = flat_map type_classes ty.args ++ result_classes ty.ret

-- of a field its name, or the classes in its descriptor (ProGuard manual, "includedescriptorclasses")
abbrev pub field_tells : Told → Field → List (List ℕ)
field_tells told.Names f = f.name ∷ []
field_tells told.Classes f = type_classes f.ty

-- of a method the same
abbrev pub method_tells : Told → Method → List (List ℕ)
method_tells told.Names m = m.name ∷ []
method_tells told.Classes m = method_type_classes m.ty

-- ---- what marks of a class and its members choose: the class is the first, then come its fields, then its methods

-- the name of the class, if it is marked (the project's own: the order of marks)
abbrev pub class_marked : List Bool → Class → List (List ℕ)
class_marked marks c = if is_marked marks 0 then c.name ∷ [] else []

-- what its marked fields tell
abbrev pub fields_marked : Told → List Bool → Class → List (List ℕ)
fields_marked asked marks c = flat_map (field_tells asked) (chosen marks 1 c.fields)

-- what its marked methods tell
abbrev pub methods_marked : Told → List Bool → Class → List (List ℕ)
methods_marked asked marks c = flat_map (method_tells asked) (chosen marks (1 + length c.fields) c.methods)

-- what is chosen of a class and its members
abbrev pub marked : Chosen → List Bool → Class → List (List ℕ)
marked choose.Class marks c = class_marked marks c
marked choose.Described marks c = fields_marked told.Classes marks c ++ methods_marked told.Classes marks c
marked choose.Fields marks c = fields_marked told.Names marks c

-- the same of all classes, with a list of marks for each
abbrev pub of_each : Chosen → List (List Bool) → List Class → List (List ℕ)
of_each what rows classes =
    flat_map (λ (e : ℕ × Class). marked what (slice_index_or rows e.0 []) e.1) (enumerate_from 0 classes)

-- the names and descriptors of marked methods of a class (JVMS 4.6)
abbrev pub named_marked : List Bool → Class → List MethodName
named_marked marks c = map (λ (m : Method). (m.name, method_text m.ty)) (chosen marks (1 + length c.fields) c.methods)

-- those of all classes
abbrev pub methods_of_each : List (List Bool) → List Class → List MethodName
methods_of_each rows classes =
    flat_map (λ (e : ℕ × Class). named_marked (slice_index_or rows e.0 []) e.1) (enumerate_from 0 classes)

-- ---- names that stay

-- names that stay and that nothing else gets: of classes, of fields, and of methods by their names and descriptors, in
-- any order
pub record Stay : Type 0 where
  pub classes : List (List ℕ)
  pub fields : List (List ℕ)
  pub methods : List MethodName

-- what rules match keeps its name, and so do fields of its name, and methods of its name and descriptor; and with
-- includedescriptorclasses the classes in the descriptors of members that are matched; reserved names stay in any case
-- (ProGuard manual, "-keepnames", "-keepclassmembernames", "includedescriptorclasses"; that all of a name stay is the
-- project's own)
abbrev pub names_that_stay : Rules → List Class → Stay
names_that_stay rules classes = record {
  classes = of_each choose.Class (fixed_rows fixes.Classes rules classes) classes
      ++ (of_each choose.Described (fixed_rows fixes.DescriptorClasses rules classes) classes ++ reserved named.Class);
  fields = of_each choose.Fields (fixed_rows fixes.Members rules classes) classes ++ reserved named.Field;
  methods = methods_of_each (fixed_rows fixes.Members rules classes) classes;
}
