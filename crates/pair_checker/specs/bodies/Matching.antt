-- A pair that was read, and what is found of it (only the proof of check_pair needs it).
use Rattle.std.specs.Prelude.{◌≡◌, ◌⊎◌, List, ◌∷◌, [], Some, None, Result, Ok, Err}
use Rattle.std.specs.List.{AllByRecursion}
use Rattle.jv_base.specs.declared.outcome.Or.{Or}
use Rattle.jv_base.specs.declared.outcome.Or.TheVariants as or
use Rattle.tree_io.specs.declared.file_at.FileAt.{FileAt}
use Rattle.class_model.specs.declared.class.Class.{Class}
use Rattle.set_read.specs.Accepted.{IsAccepted}
use Rattle.set_read.specs.declared.fault.RuleFault.{RuleFault}
use Rattle.keep_rules.specs.declared.rules.Rules.{Rules}
use Rattle.mapping_file.specs.declared.mapping.Mapping.{Mapping}
use Rattle.witness_file.specs.declared.witness.Witness.{Witness}
use Rattle.attribute_filter.specs.KeptAttributes.{filter_of}
use Rattle.rule_system.specs.Required.{required}
use Rattle.rename_map.specs.Names.{AreFixed}
use Rattle.pair_clauses.specs.Closing.{lined_items}
use Rattle.pair_clauses.specs.declared.place.Place.{Place}
use Rattle.pair_checker.specs.Clauses.{Finds, OutputFormat, OutputProfile, given_names}
use Rattle.pair_checker.specs.PairOk.{IsFirst}
use Rattle.pair_checker.specs.declared.answer.Clause.{Clause}
use Rattle.pair_checker.specs.declared.answer.Clause.TheVariants as clause
use Rattle.pair_checker.specs.declared.answer.No.{No}
use Rattle.pair_checker.specs.declared.matching.Pair.{Pair}

-- what the clauses ask for is that of the input, the mapping and the rules
pub record IsRead (pair : Pair) (rules : Rules) : Type 0 where
  pub names : pair.names.now ≡ pair.mapping.now
  pub given : pair.given.now ≡ given_names pair.mapping.now pair.input.now
  pub lined : pair.lined.now ≡ lined_items (given_names pair.mapping.now pair.input.now)
  pub fixed : AreFixed rules pair.input.now pair.fixed.now
  pub filter : pair.filter.now ≡ filter_of rules
  pub sys : pair.sys.now ≡ required pair.input.now rules
  pub entries : pair.entries.now ≡ pair.witness.now.methods

-- the answer at the first place of a clause
abbrev pub no_at : Clause → Place → No
no_at clause place = record { clause = clause; class = Some place.class; member = place.member }

-- the clauses that are tested of a pair that was read, in their order
abbrev pub tested_clauses : List Clause
tested_clauses = clause.MapShape ∷ (clause.FixedName ∷ (clause.Package ∷ (clause.SeedLost ∷ (clause.NotClosed
    ∷ (clause.MemberDiffers ∷ (clause.WitnessStray ∷ (clause.EditIllegal ∷ (clause.CodeDiffers
    ∷ (clause.LineRange ∷ [])))))))))

-- the files of an output are a set of classes, or why they are none
abbrev pub ReadsOutput : Result (List Class) (Or No) → List FileAt → Type 0
ReadsOutput (Ok output) files = IsAccepted files output
ReadsOutput (Err (or.Fault answer)) files =
    (OutputFormat files × (answer ≡ record { clause = clause.OutputFormat; class = None; member = None }))
    ⊎ ((fault : RuleFault) × OutputProfile files fault
    × (answer ≡ record { clause = clause.OutputProfile; class = Some fault.class; member = fault.member }))
ReadsOutput (Err or.OutOfMemory) files = Unit {0}

module _ (input output : List Class) (mapping : Mapping) (rules : Rules) (witness : Witness) where
  -- the first of these clauses that holds, with its first place
  abbrev pub FirstAmong : List Clause → No → Type 0
  FirstAmong [] answer = ⊥
  FirstAmong (clause ∷ clauses) answer =
      ((place : Place) × Finds input output mapping rules witness clause (Some place) × (answer ≡ no_at clause place))
      ⊎ (Finds input output mapping rules witness clause None × FirstAmong clauses answer)

  -- none of these clauses holds, or which is the first
  abbrev pub Tests : List Clause → Result (Unit {0}) (Or No) → Type 0
  Tests clauses (Ok done) = AllByRecursion (λ c. Finds input output mapping rules witness c None) clauses
  Tests clauses (Err (or.Fault answer)) = FirstAmong clauses answer
  Tests clauses (Err or.OutOfMemory) = Unit {0}

  -- no clause holds of an output that was read, or which is the first
  abbrev pub Matches : Result (Unit {0}) (Or No) → Type 0
  Matches (Ok done) = (clause : Clause) → Finds input output mapping rules witness clause None
  Matches (Err (or.Fault answer)) = (clause : Clause) × (place : Place)
      × IsFirst input output mapping rules witness clause place × (answer ≡ no_at clause place)
  Matches (Err or.OutOfMemory) = Unit {0}
