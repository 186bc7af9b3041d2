-- What holds of the new names of a set, of what is left of it under them and of the mapping that tells them, as
-- statements on all sets, marks and rules (the project's own).
use Rattle.std.specs.Prelude.{◌≡◌, Bool, List, IsPermutation, map, Option, IfSome}
use Rattle.std.specs.List.{AllByRecursion}
use Rattle.mark_core.specs.Marks.{Closed, set_of}
use Rattle.class_model.specs.declared.class.Class.{Class}
use Rattle.class_pool.specs.Faults.{Ascends, classes_of}
use Rattle.class_pool.specs.declared.fault.NamedClass.{NamedClass}
use Rattle.keep_rules.specs.declared.rules.Rules.{Rules}
use Rattle.member_shrink.specs.Shrunk.{shrunk}
use Rattle.attribute_filter.specs.Filtered.{filtered}
use Rattle.attribute_filter.specs.KeptAttributes.{filter_of}
use Rattle.rule_system.specs.Required.{required}
use Rattle.mapping_file.specs.Mappings.{IsMapping}
use Rattle.mapping_file.specs.declared.mapping.Mapping.{Mapping}
use Rattle.image_laws.specs.TakenSet.TakenSet.{IsTaken}
use Rattle.class_rename.specs.Renamed.{renamed}
use Rattle.rename_map.specs.MappingOf.{mapping_of}
use Rattle.pair_laws.specs.RenamedForm.Form.{KeepsForm}
use Rattle.pair_laws.specs.RenamedImage.Renaming.{KeepsNamesApart}
use Rattle.new_names.specs.NewNames.{names_of}
use Rattle.set_shrink.specs.Order.{class_path}
use Rattle.set_shrink.specs.ShrunkSet.{left_of, new_names}

-- ---- what is told of a set

-- what is kept of it, with those optional attributes that are, under the old names (ProGuard manual, "-keepattributes")
abbrev pub kept_of : List Class → List Bool → Rules → List Class
kept_of classes marks rules = map (filtered (filter_of rules)) (shrunk classes marks)

-- the mapping of what is kept, of which an earlier one may give some names (ProGuard manual, "-printmapping",
-- "-applymapping")
abbrev pub own_mapping : List Class → List Bool → Rules → Option Mapping → Mapping
own_mapping classes marks rules old =
    mapping_of (new_names classes marks rules old) (filter_of rules).line_numbers (shrunk classes marks)

-- a class stands at the path of its name (JLS 7.2.1)
abbrev pub IsAtItsPath : NamedClass → Type 0
IsAtItsPath f = f.path ≡ class_path f.class

-- ---- the laws

-- the mapping gives each class and each member its new name, and no name to anything else
abbrev pub MappingTellsNames : Type 0
MappingTellsNames = (classes : List Class) (marks : List Bool) (rules : Rules) (old : Option Mapping)
    → names_of (own_mapping classes marks rules old) ≡ new_names classes marks rules old

-- the new names are names of their kind (JVMS 4.2), where the earlier mapping has a text
abbrev pub NewNamesKeepForm : Type 0
NewNamesKeepForm = (classes : List Class) (marks : List Bool) (rules : Rules) (old : Option Mapping)
    → IfSome old IsMapping → IsTaken classes → Closed (required classes rules) (set_of marks)
    → KeepsForm (new_names classes marks rules old)

-- they keep apart what is kept, and leave alone what is of the library (JVMS 4.2, 2.9, 5.3)
abbrev pub NewNamesStayApart : Type 0
NewNamesStayApart = (classes : List Class) (marks : List Bool) (rules : Rules) (old : Option Mapping)
    → IfSome old IsMapping → IsTaken classes → Closed (required classes rules) (set_of marks)
    → KeepsNamesApart (new_names classes marks rules old) (kept_of classes marks rules)

-- what is left is what is kept under its new names, each class once
abbrev pub LeftIsRenamed : Type 0
LeftIsRenamed = (classes : List Class) (marks : List Bool) (rules : Rules) (old : Option Mapping) → IsTaken classes
    → IsPermutation (map (renamed (new_names classes marks rules old)) (kept_of classes marks rules))
    (left_of classes marks rules old)

-- it stands in the order of its paths
abbrev pub LeftAscends : Type 0
LeftAscends = (classes : List Class) (marks : List Bool) (rules : Rules) (old : Option Mapping)
    (files : List NamedClass) → AllByRecursion IsAtItsPath files → classes_of files ≡ left_of classes marks rules old
    → Ascends files
