-- What a run of `check` has done, and what somebody can rely on whom it told `ok` (the project's own).
use Rattle.std.specs.Prelude.{◌≡◌, ℕ, [], Some, Ok}
use Rattle.tree_io.specs.Files.{Files}
use Rattle.tree_io.specs.Runs.{AddsCalls, Sees}
use Rattle.keep_rules.specs.declared.rules.Rules.{Rules}
use Rattle.check_command.specs.Due.{IsDue, IsFound, ok_plan}
use Rattle.check_command.specs.declared.command.CheckFiles.{CheckFiles}
use Rattle.check_command.specs.declared.finding.Directories.{Directories}
use Rattle.check_command.specs.declared.finding.Texts.{Texts}
use Rattle.command_frame.specs.Answer.{Ended}
use Rattle.command_frame.specs.Output.{Outside}
use Rattle.command_frame.specs.declared.command.Plan.{Plan}
use Rattle.shrink_command.specs.SamePair.{DirectoriesDoTheSame}

-- whatever the tree answers, no file is written, and nothing is said at status 0 but `ok`
abbrev pub IsOk : Plan → Type 0
IsOk plan = plan ≡ ok_plan

-- what is read of told files does the same: the output of both directories does what the input does
abbrev pub FoundDoTheSame : Files → CheckFiles → Type 0
FoundDoTheSame files named = (rules : Rules) × (texts : Texts) × (directories : Directories)
    × IsFound named files rules texts directories
    × DirectoriesDoTheSame directories.input directories.output rules texts.mapping

-- so it is where it is due to say `ok` of told files
abbrev pub OkDoesTheSame : Type 0
OkDoesTheSame = (files : Files) (named : CheckFiles) (plan : Plan) → IsDue named files (Ok plan)
    → FoundDoTheSame files named

-- the run ended as the command's answers say; and after status 0 any files that fit what the tree answered do the same
pub record Checked (named : CheckFiles) (status : ℕ) (before after : Outside) : Type 0 where
  pub ended : Ended IsOk (IsDue named) status before after
  pub same : status ≡ 0 → AddsCalls before.calls after.calls before.files after.files
      (Sees (Some []) (λ files. FoundDoTheSame files named))
