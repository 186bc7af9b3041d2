-- A pair of sets is one with other codes of the input, which name nothing more, where the codes of the output are those
-- ones under the new names; as a statement on all sets, mappings and rules (the project's own).
use Rattle.std.specs.Prelude.{◌≡◌, List, None}
use Rattle.class_model.specs.declared.class.Class.{Class}
use Rattle.keep_rules.specs.declared.rules.Rules.{Rules}
use Rattle.attribute_filter.specs.KeptAttributes.{filter_of}
use Rattle.rule_system.specs.Required.{required}
use Rattle.mapping_file.specs.declared.mapping.Mapping.{Mapping}
use Rattle.pair_clauses.specs.Closing.{closed_fault, seed_fault}
use Rattle.pair_clauses.specs.Codes.{CodeDiffers}
use Rattle.pair_clauses.specs.FixedNames.{fixed_by, fixed_fault, package_fault}
use Rattle.pair_clauses.specs.LineRanges.{range_fault}
use Rattle.pair_clauses.specs.Members.{MemberDiffers}
use Rattle.pair_clauses.specs.Shape.{shape_fault}
use Rattle.pair_checker.specs.Clauses.{given_names}
use Rattle.swap_laws.specs.Swapped.{IsSwapped}
use Rattle.pair_laws.specs.PairSame.Pairs.{IsPair}

-- what two sets of which no clause holds have beside CodeDiffers: each field is that of `IsPair`
pub record IsPairButCodes (input output : List Class) (mapping : Mapping) (rules : Rules) : Type 0 where
  pub shape : None ≡ shape_fault input output mapping
  pub fixed : None ≡ fixed_fault (fixed_by rules input) input (given_names mapping input)
  pub packages : None ≡ package_fault input (given_names mapping input)
  pub seeds : None ≡ seed_fault input (given_names mapping input) (required input rules)
  pub closed : None ≡ closed_fault input (given_names mapping input) (required input rules)
  pub members : MemberDiffers mapping (filter_of rules) input (given_names mapping input) output None
  pub ranges : None ≡ range_fault mapping input (given_names mapping input) output

-- so they are a pair with other codes
abbrev pub SwapKeepsPairs : Type 0
SwapKeepsPairs = (input other output : List Class) (mapping : Mapping) (rules : Rules) → IsSwapped input other
    → IsPairButCodes input output mapping rules
    → CodeDiffers mapping (filter_of rules) other (given_names mapping input) output None
    → IsPair other output mapping rules
