-- An output that is read, and one that isn't.
use Rattle.std.proofs.Common.{◌≡◌, List, Some, Result, Ok, Err, inl, inr, subst}
use Rattle.jv_base.specs.declared.outcome.Or.{Or}
use Rattle.jv_base.specs.declared.outcome.Or.TheVariants as or
use Rattle.tree_io.specs.declared.file_at.FileAt.{FileAt}
use Rattle.class_model.specs.declared.class.Class.{Class}
use Rattle.set_read.specs.Accepted.{IsAccepted, IsFault, ReadsClasses}
use Rattle.set_read.specs.declared.fault.RuleFault.{RuleFault}
use Rattle.set_read.specs.declared.fault.SetFault.{SetFault}
use Rattle.keep_rules.specs.declared.rules.Rules.{Rules}
use Rattle.mapping_file.specs.declared.mapping.Mapping.{Mapping}
use Rattle.witness_file.specs.declared.witness.Witness.{Witness}
use Rattle.pair_checker.specs.PairOk.{Checks, by_clause, by_format, by_profile}
use Rattle.pair_checker.specs.bodies.Matching.{Matches, ReadsOutput}
use Rattle.pair_checker.specs.declared.answer.Clause.TheVariants as clause
use Rattle.pair_checker.specs.declared.answer.No.{No}

abbrev pub no_output : Or No → Result (List Class) (Or No)
no_output e = Err e

abbrev pub refused : Or No → Result (Unit {0}) (Or No)
refused e = Err e

module _ (input : List Class) (files : List FileAt) (mapping : Mapping) (rules : Rules) (witness : Witness) where
  pub refused_by_files : (e : Or No) → ReadsOutput (no_output e) files
      → Checks input files mapping rules witness (refused e)
  refused_by_files (or.Fault answer) (inl h) = by_format h.0 h.1
  refused_by_files (or.Fault answer) (inr h) = by_profile h.0 h.1 h.2
  refused_by_files or.OutOfMemory h = tt

  pub matched : (output : List Class) (r : Result (Unit {0}) (Or No)) → IsAccepted files output
      → Matches input output mapping rules witness r → Checks input files mapping rules witness r
  matched output (Ok done) accepted h = record { output = output; accepted = accepted; none = h }
  matched output (Err (or.Fault answer)) accepted h = by_clause output accepted h.0 h.1 h.2 h.3
  matched output (Err or.OutOfMemory) accepted h = tt

-- ---- faults of files

abbrev pub no_set : Or SetFault → Result (List Class) (Or SetFault)
no_set e = Err e

-- the fault of files, of which others are copies
pub fault_of : (files copies : List FileAt) (e : Or SetFault) (fault told : SetFault) → copies ≡ files
    → e ≡ or.Fault fault
    → fault ≡ told → ReadsClasses (no_set e) copies → IsFault files told
fault_of files copies e fault told same is that h =
    subst (IsFault files) that
    (subst (λ (fs : List FileAt). IsFault fs fault) same
    (subst (λ (x : Or SetFault). ReadsClasses (no_set x) copies) is h))

-- what is answered where files break a rule
abbrev pub profile_no : RuleFault → No
profile_no fault = record { clause = clause.OutputProfile; class = Some fault.class; member = fault.member }
