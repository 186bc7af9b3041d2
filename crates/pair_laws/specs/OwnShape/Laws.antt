-- The mapping of a set fits the set and what is left of it, as a statement on all sets, marks and rules (the project's
-- own).
use Rattle.std.specs.Prelude.{◌≡◌, Bool, List, Option, None}
use Rattle.class_model.specs.declared.class.Class.{Class}
use Rattle.keep_rules.specs.declared.rules.Rules.{Rules}
use Rattle.mapping_file.specs.declared.mapping.Mapping.{Mapping}
use Rattle.image_laws.specs.TakenSet.TakenSet.{IsTaken}
use Rattle.set_shrink.specs.ShrunkSet.{left_of}
use Rattle.pair_clauses.specs.Shape.{shape_fault}
use Rattle.pair_laws.specs.OwnNames.Laws.{own_mapping}

-- the clause MapShape finds no place
abbrev pub OwnMappingFits : Type 0
OwnMappingFits = (classes : List Class) (marks : List Bool) (rules : Rules) (old : Option Mapping) → IsTaken classes
    → None ≡ shape_fault classes (left_of classes marks rules old) (own_mapping classes marks rules old)
