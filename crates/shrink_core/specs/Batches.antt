-- What a run of a batch has done (the project's own: the command's answers are no part of a standard).
use Rattle.std.specs.Prelude.{◌≡◌, ◌⊎◌, ℕ, List, Option, Some, None, Result, Ok, codes}
use Rattle.std.specs.List.{AllZip}
use Rattle.tree_io.specs.Files.{Files}
use Rattle.batch_command.specs.Answer.{Ended}
use Rattle.batch_command.specs.Batch.{IsDue, batch_of}
use Rattle.batch_command.specs.Jobs.{AreListed, Parts}
use Rattle.batch_command.specs.declared.joined.Batch.{Batch as Joined}
use Rattle.batch_command.specs.declared.work.JobConfig.{JobConfig}
use Rattle.batch_list.specs.declared.line.JobFiles.{JobFiles}
use Rattle.command_frame.specs.Output.{Outside}
use Rattle.command_frame.specs.Steps.{Then}
use Rattle.command_frame.specs.declared.command.Plan.{Plan}
use Rattle.command_frame.specs.declared.refusal.Refusal.{Refusal}
use Rattle.command_steps.specs.Config.{IsConfigApart}
use Rattle.command_steps.specs.Sets.{IsDirectory}
use Rattle.command_steps.specs.Texts.{IsEarlier}
use Rattle.keep_rules.specs.declared.rules.Rules.{Rules}
use Rattle.command_words.specs.declared.batch.Batch.{Batch}
use Rattle.shrink_command.specs.Due as shrink
use Rattle.shrink_command.specs.Due.{FollowsInput, IsEmptied}
use Rattle.shrink_command.specs.declared.command.ShrinkFiles.{ShrinkFiles}
use Rattle.shrink_core.specs.Commands.{SaysAtOnce}

-- a job with what its config says, and the earlier mapping that it applies
abbrev pub IsApplied : Files → JobFiles → Rules → Result JobConfig Refusal → Type 0
IsApplied files job rules = Then (IsEarlier files rules.apply)
    (λ earlier due. due ≡ Ok (record { files = job; rules = rules; earlier = earlier }))

-- the steps of `shrink` up to its config and earlier mapping, up to its class files, and behind them
abbrev pub shrink_parts : Parts
shrink_parts = record {
  config = λ files job. Then (IsConfigApart files job.config job.witness) (IsApplied files job);
  input = λ files rules. Then (IsEmptied files rules.out_dir) (λ done. IsDirectory files rules.in_dir);
  plan = λ job. FollowsInput job.config.rules job.config.earlier job.config.files.witness job.inputs;
}

-- what was done for the batch that words ask for, whatever the number of workers; other words are refused
abbrev pub DoesBatch : Option Batch → ℕ → Outside → Outside → Type 0
DoesBatch (Some batch) status before after = Ended (IsDue shrink_parts batch.list) status before after
DoesBatch None status before after = SaysAtOnce 1 (codes "error 1 words\n") status before after

-- a run that was given words which ask for this batch did it, or memory was wanting for the words
abbrev pub RanBatch : Option Batch → ℕ → Outside → Outside → Type 0
RanBatch batch status before after = DoesBatch batch status before after
    ⊎ SaysAtOnce 10 (codes "error 10 memory\n") status before after

-- ---- the law

-- the files of a job, as those of a shrink
abbrev pub shrink_of : JobFiles → ShrinkFiles
shrink_of job = record { config = job.config; witness = job.witness }

-- a batch is what `shrink` would write and say for each of its jobs alone, on the same files
pub record DoesShrinks (files : Files) (list : List ℕ) (batch : Joined) : Type 0 where
  pub jobs : List JobFiles
  pub answers : List (Result Plan Refusal)
  pub listed : AreListed files list (Ok jobs)
  pub each : AllZip (λ job. shrink.IsDue (shrink_of job) files) jobs answers
  pub joined : batch ≡ batch_of answers

-- so it is of each batch that is due
abbrev pub IsOfShrinks : Type 0
IsOfShrinks = (files : Files) (list : List ℕ) (batch : Joined) → IsDue shrink_parts list files (Ok batch)
    → DoesShrinks files list batch
