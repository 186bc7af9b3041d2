-- What lines of a mapping give (only the proof of check_pair needs it).
use Rattle.std.specs.Prelude.{◌≡◌, List}
use Rattle.class_model.specs.declared.class.Class.{Class}
use Rattle.mapping_file.specs.declared.mapping.Mapping.{Mapping}
use Rattle.pair_clauses.specs.Closing.{lined_items}
use Rattle.pair_checker.specs.Clauses.{given_names}
use Rattle.pair_checker.specs.declared.checking.Lines.{Lines}

-- the names are those of the mapping, for each class of the input
pub record AreLines (lines : Lines) (mapping : Mapping) (input : List Class) : Type 0 where
  pub names : lines.names.now ≡ mapping
  pub given : lines.given.now ≡ given_names mapping input
  pub lined : lines.lined.now ≡ lined_items (given_names mapping input)
