-- What is said of two sets is always something, as a statement on all sets, mappings, rules and witnesses (the project's
-- own).
use Rattle.std.specs.Prelude.{◌⊎◌, List, None}
use Rattle.tree_io.specs.declared.file_at.FileAt.{FileAt}
use Rattle.class_model.specs.declared.class.Class.{Class}
use Rattle.set_read.specs.Accepted.{IsAccepted}
use Rattle.keep_rules.specs.declared.rules.Rules.{Rules}
use Rattle.mapping_file.specs.declared.mapping.Mapping.{Mapping}
use Rattle.witness_file.specs.declared.witness.Witness.{Witness}
use Rattle.pair_clauses.specs.declared.place.Place.{Place}
use Rattle.pair_checker.specs.Clauses.{Finds}
use Rattle.pair_checker.specs.PairOk.{IsFirst}
use Rattle.pair_checker.specs.declared.answer.Clause.{Clause}

-- of an input that some files are taken as, and any other set, no clause holds, or there is a first one with its first
-- place
abbrev pub IsSomeClause : Type 0
IsSomeClause = (files : List FileAt) (input output : List Class) (mapping : Mapping) (rules : Rules) (witness : Witness)
    → IsAccepted files input
    → ((clause : Clause) → Finds input output mapping rules witness clause None)
    ⊎ ((clause : Clause) × (place : Place) × IsFirst input output mapping rules witness clause place)
