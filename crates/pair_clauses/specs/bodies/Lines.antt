-- What the lines that were gone over have told (only the proofs of bodies need it).
use Rattle.std.specs.Prelude.{ℕ, List, ◌++◌, map}
use Rattle.std.specs.List.{flat_map}
use Rattle.mapping_file.specs.declared.mapping.MapClass.{MapClass}
use Rattle.mapping_file.specs.declared.mapping.MapField.{MapField}
use Rattle.mapping_file.specs.declared.mapping.MapMethod.{MapMethod}
use Rattle.new_names.specs.NewNames.{NameAndType, all_field_names, field_names}
use Rattle.pair_clauses.specs.Shape.{field_named, method_named, method_pairs}
use Rattle.pair_clauses.specs.bodies.Seen.{HasMembers, HasNames, TellsMethods, TellsPairs}
use Rattle.pair_clauses.specs.declared.seen.SeenMembers.{SeenMembers}
use Rattle.pair_clauses.specs.declared.seen.SeenMethodPairs.{SeenMethodPairs}
use Rattle.pair_clauses.specs.declared.seen.SeenPairs.{SeenPairs}
use Rattle.pair_clauses.specs.declared.shape.SeenLines.{SeenLines}

-- lines of classes, with the lines of their members
pub record HasLines (seen : SeenLines) (lines : List MapClass) : Type 0 where
  pub old_classes : HasNames seen.old_classes (map (λ (l : MapClass). l.old) lines)
  pub new_classes : HasNames seen.new_classes (map (λ (l : MapClass). l.new) lines)
  pub fields : TellsPairs seen.fields (all_field_names lines)
  pub methods : TellsMethods seen.methods (flat_map (λ (l : MapClass). method_pairs l.methods) lines)

-- lines of fields of a class, behind names of others
pub record SeenFields (seen : SeenPairs) (own : SeenMembers) (before : List (List ℕ × List ℕ)) (lines : List MapField)
    : Type 0 where
  pub pairs : TellsPairs seen (before ++ field_names lines)
  pub members : HasMembers own (map field_named lines)

-- lines of methods of a class, behind names of others
pub record SeenMethods (seen : SeenMethodPairs) (own : SeenMembers) (before : List (NameAndType × NameAndType))
    (lines : List MapMethod) : Type 0 where
  pub pairs : TellsMethods seen (before ++ method_pairs lines)
  pub members : HasMembers own (map method_named lines)
