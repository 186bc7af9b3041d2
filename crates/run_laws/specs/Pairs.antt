-- The output of a pair shows what its input shows, as a statement on all told files and words (the project's own: what is
-- promised of a pair).
use Rattle.std.specs.Prelude.{◌≡◌, ◌≢◌, List, [], Ok, Err}
use Rattle.tree_io.specs.Files.{Files}
use Rattle.tree_io.specs.declared.file_at.FileAt.{FileAt}
use Rattle.class_model.specs.declared.class.Class.{Class}
use Rattle.keep_rules.specs.declared.rules.Rules.{Rules}
use Rattle.mapping_file.specs.declared.mapping.Mapping.{Mapping}
use Rattle.witness_file.specs.declared.witness.Witness.{Witness}
use Rattle.pair_checker.specs.PairOk.{PairOk}
use Rattle.command_frame.specs.declared.command.Plan.{Plan}
use Rattle.command_frame.specs.declared.refusal.Reason.TheVariants.{Differs}
use Rattle.command_frame.specs.declared.refusal.Refusal.{Refusal}
use Rattle.command_steps.specs.Config.{IsConfigured}
use Rattle.command_steps.specs.Sets.{IsDirectory, IsSet}
use Rattle.check_command.specs.Due as check
use Rattle.check_command.specs.declared.command.CheckFiles.{CheckFiles}
use Rattle.compare_command.specs.Due.{IsDue, IsMappingAt}
use Rattle.compare_command.specs.declared.command.CompareFiles.{CompareFiles}

-- of told files the config has these rules, the mapping is this one, the class files below the directory of the input are
-- accepted as this set, and those below that of the output belong to it, with this witness
pub record ArePaired (named : CompareFiles) (files : Files) : Type 0 where
  pub rules : Rules
  pub mapping : Mapping
  pub inputs : List FileAt
  pub input : List Class
  pub outputs : List FileAt
  pub witness : Witness
  pub configured : IsConfigured files named.config [] (Ok rules)
  pub mapped : IsMappingAt files rules.mapping (Ok mapping)
  pub given : IsDirectory files rules.in_dir (Ok inputs)
  pub accepted : IsSet rules.in_dir inputs (Ok input)
  pub written : IsDirectory files rules.out_dir (Ok outputs)
  pub pair : PairOk input outputs mapping rules witness

-- so `compare` isn't due to say that they differ: whatever the entry, the steps and the words, it is refused for another
-- reason, if it is
abbrev pub NeverDiffers : CompareFiles → Files → Type 0
NeverDiffers named files = (refusal : Refusal) → IsDue named files (Err refusal) → refusal.reason ≢ Differs

abbrev pub PairsNeverDiffer : Type 0
PairsNeverDiffer = (files : Files) (named : CompareFiles) → ArePaired named files → NeverDiffers named files

-- so it is where `check` is due to say `ok` of the same files, by the same config and any witness
abbrev pub CheckedNeverDiffer : Type 0
CheckedNeverDiffer = (files : Files) (checked : CheckFiles) (plan : Plan) → check.IsDue checked files (Ok plan)
    → (named : CompareFiles) → named.config ≡ checked.config → NeverDiffers named files
