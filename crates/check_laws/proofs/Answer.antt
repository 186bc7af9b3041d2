-- Files of bytes are a pair, or there is a reason why they are none.
use Rattle.std.proofs.Common.{◌⊎◌, inl, inr, List, Some, None, refl}
use Rattle.tree_io.specs.declared.file_at.FileAt.{FileAt}
use Rattle.class_model.specs.declared.class.Class.{Class}
use Rattle.set_read.specs.Accepted.{IsAccepted, IsFault}
use Rattle.set_read.specs.declared.fault.SetFault.{SetFault}
use Rattle.set_read.specs.declared.fault.SetFault.TheVariants.{Format, Rule}
use Rattle.keep_rules.specs.declared.rules.Rules.{Rules}
use Rattle.mapping_file.specs.declared.mapping.Mapping.{Mapping}
use Rattle.witness_file.specs.declared.witness.Witness.{Witness}
use Rattle.pair_clauses.specs.declared.place.Place.{Place}
use Rattle.pair_checker.specs.Clauses.{Finds}
use Rattle.pair_checker.specs.PairOk.{IsFirst, IsNo, PairOk, by_clause, by_format, by_profile}
use Rattle.pair_checker.specs.declared.answer.Clause.{Clause}
use Rattle.pair_checker.specs.declared.answer.Clause.TheVariants as clause
use Rattle.pair_checker.specs.declared.answer.No.{No}
use Rattle.pair_checker.proofs.Sounding.{accepted_sound}
use Rattle.check_laws.specs.Laws.{IsSomeAnswer}
use Rattle.answer_laws.proofs.Clauses.{first_or_none}
use Rattle.shrink_command.proofs.SomeSet.{set_or}

module _ (input : List Class) (written : List FileAt) (mapping : Mapping) (rules : Rules) (witness : Witness) where
  abbrev Answered : Type 0
  Answered = PairOk input written mapping rules witness
      ⊎ ((answer : No) × IsNo input written mapping rules witness answer)

  by_clauses : (output : List Class) → IsAccepted written output
      → ((clause : Clause) → Finds input output mapping rules witness clause None)
      ⊎ ((clause : Clause) × (place : Place) × IsFirst input output mapping rules witness clause place) → Answered
  by_clauses output accepted (inl none) = inl (record { output = output; accepted = accepted; none = none })
  by_clauses output accepted (inr (c, place, first)) = inr (
    record { clause = c; class = Some place.class; member = place.member },
    by_clause output accepted c place first refl,
  )

  by_fault : (fault : SetFault) → IsFault written fault → Answered
  by_fault (Format path fault) is = inr (
    record { clause = clause.OutputFormat; class = None; member = None },
    by_format (path, fault, is) refl,
  )
  by_fault (Rule told) is = inr (
    record { clause = clause.OutputProfile; class = Some told.class; member = told.member },
    by_profile told is refl,
  )

pub some_answer : IsSomeAnswer
some_answer files input written mapping rules witness accepted bytes = by (set_or written bytes)
  where
    by : ((output : List Class) × IsAccepted written output) ⊎ ((fault : SetFault) × IsFault written fault)
        → PairOk input written mapping rules witness ⊎ ((answer : No) × IsNo input written mapping rules witness answer)
    by (inl (output, taken)) = by_clauses input written mapping rules witness output taken
        (first_or_none input output mapping rules witness (accepted_sound files input accepted))
    by (inr (fault, is)) = by_fault input written mapping rules witness fault is
