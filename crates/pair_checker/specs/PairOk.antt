-- Which output belongs to an input, by a mapping, rules and a witness; and why another one doesn't (the project's own:
-- what the command promises).
use Rattle.std.specs.Prelude.{◌≡◌, ◌<◌, List, Some, None, Result, Ok, Err}
use Rattle.jv_base.specs.declared.outcome.Or.{Or}
use Rattle.jv_base.specs.declared.outcome.Or.TheVariants as or
use Rattle.tree_io.specs.declared.file_at.FileAt.{FileAt}
use Rattle.class_model.specs.declared.class.Class.{Class}
use Rattle.set_read.specs.Accepted.{IsAccepted}
use Rattle.set_read.specs.declared.fault.RuleFault.{RuleFault}
use Rattle.keep_rules.specs.declared.rules.Rules.{Rules}
use Rattle.mapping_file.specs.declared.mapping.Mapping.{Mapping}
use Rattle.witness_file.specs.declared.witness.Witness.{Witness}
use Rattle.pair_clauses.specs.declared.place.Place.{Place}
use Rattle.pair_checker.specs.Clauses.{Finds, OutputFormat, OutputProfile, number}
use Rattle.pair_checker.specs.declared.answer.Clause.{Clause}
use Rattle.pair_checker.specs.declared.answer.Clause.TheVariants as clause
use Rattle.pair_checker.specs.declared.answer.No.{No}

-- of the clauses that hold of an output this is the first, and this is the first place at which it holds
pub record IsFirst (input output : List Class) (mapping : Mapping) (rules : Rules) (witness : Witness) (clause : Clause)
    (place : Place) : Type 0 where
  pub holds : Finds input output mapping rules witness clause (Some place)
  pub before : (earlier : Clause) → number earlier < number clause
      → Finds input output mapping rules witness earlier None

module _ (input : List Class) (files : List FileAt) (mapping : Mapping) (rules : Rules) (witness : Witness) where
  -- the files of the output are taken as a set of classes, and no clause holds of it
  pub record PairOk : Type 0 where
    pub output : List Class
    pub accepted : IsAccepted files output
    pub none : (clause : Clause) → Finds input output mapping rules witness clause None

  -- why a pair is refused: a file of the output is no class file, and no place is named; or the files break a rule of
  -- sets of classes; or they are taken, and another clause holds
  pub data IsNo (answer : No) : Type 0 where
    by_format : OutputFormat files
        → answer ≡ record { clause = clause.OutputFormat; class = None; member = None } → IsNo answer
    by_profile : (fault : RuleFault) → OutputProfile files fault
        → answer ≡ record { clause = clause.OutputProfile; class = Some fault.class; member = fault.member }
        → IsNo answer
    by_clause : (output : List Class) → IsAccepted files output → (clause : Clause) (place : Place)
        → IsFirst input output mapping rules witness clause place
        → answer ≡ record { clause = clause; class = Some place.class; member = place.member } → IsNo answer

  -- a pair is taken, or why it isn't
  abbrev pub Checks : Result (Unit {0}) (Or No) → Type 0
  Checks (Ok done) = PairOk
  Checks (Err (or.Fault answer)) = IsNo answer
  Checks (Err or.OutOfMemory) = Unit {0}
