-- A pair of sets of which no clause holds: each clause of `pair_clauses` that is said of the two sets finds no place
-- (the project's own: what the command tests).
use Rattle.std.specs.Prelude.{◌≡◌, List, None}
use Rattle.class_model.specs.declared.class.Class.{Class}
use Rattle.keep_rules.specs.declared.rules.Rules.{Rules}
use Rattle.attribute_filter.specs.KeptAttributes.{filter_of}
use Rattle.rule_system.specs.Required.{required}
use Rattle.mapping_file.specs.declared.mapping.Mapping.{Mapping}
use Rattle.pair_clauses.specs.Closing.{closed_fault, seed_fault}
use Rattle.pair_clauses.specs.Codes.{CodeDiffers}
use Rattle.pair_clauses.specs.FixedNames.{fixed_by, fixed_fault, package_fault}
use Rattle.pair_clauses.specs.LineRanges.{range_fault}
use Rattle.pair_clauses.specs.Members.{MemberDiffers}
use Rattle.pair_clauses.specs.Shape.{shape_fault}
use Rattle.pair_checker.specs.Clauses.{given_names}

pub record IsPair (input output : List Class) (mapping : Mapping) (rules : Rules) : Type 0 where
  pub shape : None ≡ shape_fault input output mapping
  pub fixed : None ≡ fixed_fault (fixed_by rules input) input (given_names mapping input)
  pub packages : None ≡ package_fault input (given_names mapping input)
  pub seeds : None ≡ seed_fault input (given_names mapping input) (required input rules)
  pub closed : None ≡ closed_fault input (given_names mapping input) (required input rules)
  pub members : MemberDiffers mapping (filter_of rules) input (given_names mapping input) output None
  pub codes : CodeDiffers mapping (filter_of rules) input (given_names mapping input) output None
  pub ranges : None ≡ range_fault mapping input (given_names mapping input) output
