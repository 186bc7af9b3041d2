-- The output of a pair does what the input does, where the codes of the output are those of the input after steps of
-- right acts, under the new names; as a statement on all sets, mappings and rules (the project's own).
use Rattle.std.specs.Prelude.{List, None}
use Rattle.std.specs.List.{AllZip}
use Rattle.class_model.specs.declared.class.Class.{Class}
use Rattle.keep_rules.specs.declared.rules.Rules.{Rules}
use Rattle.attribute_filter.specs.KeptAttributes.{filter_of}
use Rattle.mapping_file.specs.declared.mapping.Mapping.{Mapping}
use Rattle.pair_clauses.specs.Codes.{CodeDiffers}
use Rattle.pair_checker.specs.Clauses.{given_names}
use Rattle.jvm_model.specs.Same.{Corr, Same}
use Rattle.jvm_model.specs.State.{State, frames}
use Rattle.jvm_model.specs.Value.{Key}
use Rattle.set_view.specs.ViewOf.{view_of}
use Rattle.type_verifier.specs.Verified.{AreTyped}
use Rattle.image_laws.specs.TakenSet.TakenSet.{IsTaken}
use Rattle.edit_premises.specs.Steps.{IsEdited}
use Rattle.shape_laws.specs.Bare.{CodesAre, DifferInCodes}
use Rattle.pair_laws.specs.PairSame.Entries.{AreEntries}
use Rattle.pair_laws.specs.PairSame.Laws.{pair_names}
use Rattle.pair_laws.specs.PairSame.OneToOne.{AreOneToOne}
use Rattle.pair_laws.specs.PairTrace.Laws.{IsRetraced}
use Rattle.pair_laws.specs.SwappedPairs.Laws.{IsPairButCodes}

-- two sets of which no clause but CodeDiffers holds, and no CodeDiffers where the input has other codes, which are its
-- own after right steps
pub record IsEditedPair (input edited output : List Class) (mapping : Mapping) (rules : Rules) : Type 0 where
  pub alike : DifferInCodes input edited
  pub steps : CodesAre IsEdited input edited
  pub but_codes : IsPairButCodes input output mapping rules
  pub codes : CodeDiffers mapping (filter_of rules) edited (given_names mapping input) output None

-- names are one to one; from each entry the output does what the input does; and a trace of the output tells the lines of
-- the input's frames
pub record EditedDoTheSame (input output : List Class) (mapping : Mapping) (rules : Rules) : Type 0 where
  pub names : AreOneToOne input (pair_names input mapping)
  pub same : (entries : List Key) → AreEntries input rules entries
      → Same (view_of input) (view_of output) (pair_names input mapping) entries
  pub retraced : (s t : State) → Corr (view_of input) (view_of output) (pair_names input mapping) s t
      → AllZip (IsRetraced input output mapping) (frames s) (frames t)

abbrev pub EditedPairsDoTheSame : Type 0
EditedPairsDoTheSame = (input edited output : List Class) (mapping : Mapping) (rules : Rules) → IsTaken input
    → AreTyped input → IsTaken output → IsEditedPair input edited output mapping rules
    → EditedDoTheSame input output mapping rules
