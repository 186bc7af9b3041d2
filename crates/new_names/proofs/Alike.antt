-- Tables that tell what the lines of a mapping tell.
use Rattle.std.proofs.Common.{◌&&◌, Some, ◌∙◌}
use Rattle.std.specs.Map.{lookup}
use Rattle.jv_base.proofs.Equality.{text_sym}
use Rattle.class_rename.specs.Names.{Tables}
use Rattle.mapping_file.specs.declared.mapping.Mapping.{Mapping}
use Rattle.new_names.specs.NewNames.{AreAlike, NameAndType, all_field_names, all_method_names, class_names, tables_of}
use Rattle.new_names.specs.bodies.Tables.{TellsMembers, TellsNames}

pub tables_alike : (tables : Tables) (mapping : Mapping) → TellsNames tables.classes (class_names mapping.classes)
    → TellsNames tables.fields (all_field_names mapping.classes)
    → TellsMembers tables.methods (all_method_names mapping.classes) → AreAlike tables (tables_of (Some mapping))
tables_alike tables mapping classes fields methods = record {
  classes = λ a. classes a ∙ (λ i. lookup (λ old. text_sym old a i) (class_names mapping.classes));
  fields = λ a. fields a ∙ (λ i. lookup (λ old. text_sym old a i) (all_field_names mapping.classes));
  methods = λ m. methods m ∙ (λ i. lookup (λ (old : NameAndType). text_sym old.0 m.0 i && text_sym old.1 m.1 i)
      (all_method_names mapping.classes));
}
