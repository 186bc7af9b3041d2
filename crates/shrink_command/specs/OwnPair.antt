-- What is written is a pair with what was read (the project's own: what the command promises of the files that it
-- writes).
use Rattle.std.specs.Prelude.{◌≡◌, List, ◌∷◌, ◌++◌, Ok}
use Rattle.tree_io.specs.Files.{Files}
use Rattle.tree_io.specs.declared.file_at.FileAt.{FileAt}
use Rattle.class_model.specs.declared.class.Class.{Class}
use Rattle.keep_rules.specs.declared.rules.Rules.{Rules}
use Rattle.mapping_file.specs.Mappings.{mapping_text}
use Rattle.mapping_file.specs.declared.mapping.Mapping.{Mapping}
use Rattle.pair_laws.specs.OwnChecked.Again.{IsFoundAgain}
use Rattle.pair_laws.specs.OwnPairs.Paired.{ArePaired}
use Rattle.set_read.specs.Accepted.{IsAccepted}
use Rattle.witness_file.specs.declared.witness.Witness.{Witness}
use Rattle.class_files.specs.Input.{input_due}
use Rattle.class_files.specs.Output.{put_all}
use Rattle.command_frame.specs.declared.command.Plan.{Plan}
use Rattle.command_steps.specs.Config.{IsConfigured}
use Rattle.shrink_command.specs.Due.{IsDue}
use Rattle.shrink_command.specs.declared.command.ShrinkFiles.{ShrinkFiles}

-- the file of a mapping, at the path that the rules name (ProGuard manual, "-printmapping")
abbrev pub mapping_file : Rules → Mapping → FileAt
mapping_file rules mapping = record { path = rules.mapping; bytes = mapping_text mapping }

-- the files of a plan are class files, a mapping behind them, and other texts; and by this mapping and a witness of how
-- methods were edited the class files are a pair with the set that the config's input directory has: no clause of `check`
-- holds, from each entry they do what the set does, and each method is typed; and where the plan was written, all of it
-- is found again by the config: the mapping and the witness are read as these, and below the output directory stand
-- these class files and no other, unless they pass a limit on what is read
pub record IsOwnPair (files : Files) (named : ShrinkFiles) (plan : Plan) : Type 0 where
  pub rules : Rules
  pub inputs : List FileAt
  pub classes : List Class
  pub configured : IsConfigured files named.config named.witness (Ok rules)
  pub given : input_due files rules.in_dir ≡ Ok inputs
  pub taken : IsAccepted inputs classes
  pub class_files : List FileAt
  pub mapping : Mapping
  pub edits : Witness
  pub others : List FileAt
  pub files_are : plan.files ≡ class_files ++ mapping_file rules mapping ∷ others
  pub paired : ArePaired classes rules mapping edits class_files
  pub again : IsFoundAgain files (put_all files plan.files) named.config named.witness rules mapping edits
      paired.written

-- so it is of each plan that is due for told files
abbrev pub DueIsOwnPair : Type 0
DueIsOwnPair = (files : Files) (named : ShrinkFiles) (plan : Plan) → IsDue named files (Ok plan)
    → IsOwnPair files named plan
