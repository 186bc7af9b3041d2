-- What is said of files as a pair, and by `check`, is always something; as statements on all files (the project's own:
-- each command has an answer).
use Rattle.std.specs.Prelude.{◌⊎◌, List, Result}
use Rattle.std.specs.List.{AllByRecursion}
use Rattle.tree_io.specs.Files.{Files}
use Rattle.tree_io.specs.declared.file_at.FileAt.{FileAt}
use Rattle.class_laws.specs.ReadingLaws.{AreBytes}
use Rattle.class_model.specs.declared.class.Class.{Class}
use Rattle.set_read.specs.Accepted.{IsAccepted}
use Rattle.keep_rules.specs.declared.rules.Rules.{Rules}
use Rattle.mapping_file.specs.declared.mapping.Mapping.{Mapping}
use Rattle.witness_file.specs.declared.witness.Witness.{Witness}
use Rattle.pair_checker.specs.PairOk.{IsNo, PairOk}
use Rattle.pair_checker.specs.declared.answer.No.{No}
use Rattle.command_frame.specs.declared.command.Plan.{Plan}
use Rattle.command_frame.specs.declared.refusal.Refusal.{Refusal}
use Rattle.check_command.specs.Due.{IsDue}
use Rattle.check_command.specs.declared.command.CheckFiles.{CheckFiles}
use Rattle.shrink_command.specs.SomeDue.{HoldBytes}

-- class files of bytes are a pair with an input that some files are taken as, or there is a reason why they are none
abbrev pub IsSomeAnswer : Type 0
IsSomeAnswer = (files : List FileAt) (input : List Class) (written : List FileAt) (mapping : Mapping) (rules : Rules)
    (witness : Witness) → IsAccepted files input → AllByRecursion (λ (f : FileAt). AreBytes f.bytes) written
    → PairOk input written mapping rules witness ⊎ ((answer : No) × IsNo input written mapping rules witness answer)

-- of told files of bytes something is due of `check`: `ok`, or a refusal
abbrev pub IsSomeCheck : Type 0
IsSomeCheck = (files : Files) (named : CheckFiles) → HoldBytes files
    → (due : Result Plan Refusal) × IsDue named files due
