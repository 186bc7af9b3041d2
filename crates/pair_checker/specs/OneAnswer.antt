-- The same pair is never both taken and refused, nor refused in two ways (the project's own: the answer is the only
-- one).
use Rattle.std.specs.Prelude.{◌≡◌, List}
use Rattle.tree_io.specs.declared.file_at.FileAt.{FileAt}
use Rattle.class_model.specs.declared.class.Class.{Class}
use Rattle.keep_rules.specs.declared.rules.Rules.{Rules}
use Rattle.mapping_file.specs.declared.mapping.Mapping.{Mapping}
use Rattle.witness_file.specs.declared.witness.Witness.{Witness}
use Rattle.pair_checker.specs.PairOk.{IsNo, PairOk}
use Rattle.pair_checker.specs.declared.answer.No.{No}

-- a pair that is taken isn't refused
abbrev pub NotBoth : Type 0
NotBoth = (input : List Class) (files : List FileAt) (mapping : Mapping) (rules : Rules) (witness : Witness)
    (answer : No)
    → PairOk input files mapping rules witness → IsNo input files mapping rules witness answer → ⊥

-- two answers by which the same pair is refused are the same
abbrev pub IsOneNo : Type 0
IsOneNo = (input : List Class) (files : List FileAt) (mapping : Mapping) (rules : Rules) (witness : Witness)
    (answer other : No) → IsNo input files mapping rules witness answer → IsNo input files mapping rules witness other
    → answer ≡ other
