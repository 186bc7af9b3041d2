-- What holds of batches (the project's own: a batch does what each of its jobs would do alone).
use Rattle.std.specs.Prelude.{◌≡◌, ◌⊎◌, ℕ, List, Some, Result, Ok, Err}
use Rattle.std.specs.List.{AllZip}
use Rattle.tree_io.specs.Files.{Files}
use Rattle.tree_io.specs.declared.file_at.FileAt.{FileAt}
use Rattle.class_files.specs.Output.{put_all, StopsWithin}
use Rattle.batch_list.specs.declared.line.JobFiles.{JobFiles}
use Rattle.command_frame.specs.Answer.{StopsBefore}
use Rattle.command_frame.specs.Output.{Outside}
use Rattle.command_frame.specs.declared.command.Plan.{Plan}
use Rattle.command_frame.specs.declared.refusal.Refusal.{Refusal}
use Rattle.command_frame.specs.declared.stop.Stop.{Stop}
use Rattle.command_frame.specs.declared.stop.Stop.TheVariants.{Refused, Device, OutOfMemory}
use Rattle.batch_command.specs.Answer.{Ended, Ending, done, status_of, stopped, text_failed, text_without_memory}
use Rattle.batch_command.specs.Batch.{IsDue, batch_of}
use Rattle.batch_command.specs.Jobs.{AreListed, IsJob, Parts}
use Rattle.batch_command.specs.declared.joined.Batch.{Batch}

-- ---- jobs

-- a batch is what its jobs would each write and say alone, on the same files
pub record DoesJobs (parts : Parts) (files : Files) (list : List ℕ) (batch : Batch) : Type 0 where
  pub jobs : List JobFiles
  pub answers : List (Result Plan Refusal)
  pub listed : AreListed files list (Ok jobs)
  pub each : AllZip (IsJob parts files) jobs answers
  pub joined : batch ≡ batch_of answers

-- so it is of each batch that is due
abbrev pub IsOfJobs : Parts → Type 0
IsOfJobs parts = (files : Files) (list : List ℕ) (batch : Batch) → IsDue parts list files (Ok batch)
    → DoesJobs parts files list batch

-- ---- told files

-- nothing has changed; or a batch was due, and its files were put up to one of them
abbrev pub LeavesSome : (Files → Result Batch Refusal → Type 0)
    → (List FileAt → ℕ → FileAt → Files → Files → Type 0) → Files → Files → Type 0
LeavesSome Due Left old new = (new ≡ old)
    ⊎ ((batch : Batch) × (number : ℕ) × (next : FileAt) × Due old (Ok batch) × Left batch.plan.files number next old new)

-- a refusal was due, and nothing has changed; or it stopped before a file or at it
abbrev pub LeavesStopped : (Files → Result Batch Refusal → Type 0) → Stop → Files → Files → Type 0
LeavesStopped Due (Refused refusal) old new = Due old (Err refusal) × (new ≡ old)
LeavesStopped Due Device old new = LeavesSome Due StopsWithin old new
LeavesStopped Due OutOfMemory old new = LeavesSome Due StopsBefore old new

-- a batch was due, and its files were put
abbrev pub LeavesPut : (Files → Result Batch Refusal → Type 0) → Batch → Files → Files → Type 0
LeavesPut Due batch old new = Due old (Ok batch) × (new ≡ put_all old batch.plan.files)

abbrev pub Leaves : (Files → Result Batch Refusal → Type 0) → Ending → Files → Files → Type 0
Leaves Due (done batch) old new = LeavesPut Due batch old new
Leaves Due (stopped stop) old new = LeavesStopped Due stop old new
Leaves Due (text_failed batch) old new = LeavesPut Due batch old new
Leaves Due (text_without_memory batch) old new = LeavesPut Due batch old new

-- of files that are told before a run, those after it are told, and are as its ending leaves them
abbrev pub LeavesTold : (Files → Result Batch Refusal → Type 0) → Type 0
LeavesTold Due = (status : ℕ) (before after : Outside) (old : Files) → before.files ≡ Some old
    → Ended Due status before after
    → (ending : Ending) × (status ≡ status_of ending) × (new : Files) × (after.files ≡ Some new)
    × Leaves Due ending old new
