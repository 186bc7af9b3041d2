-- How a batch ends: its status, what the tree was asked and what becomes of the files, what is said (the project's own:
-- the command's answers are no part of a standard).
use Rattle.std.specs.Prelude.{◌≡◌, ◌⊎◌, ℕ, List, [], Result, Ok, Err}
use Rattle.tree_io.specs.Event.{files_to_write, without_memory}
use Rattle.tree_io.specs.Files.{Files}
use Rattle.tree_io.specs.Runs.{AddsCalls, Run}
use Rattle.tree_io.specs.declared.event.Event.{Event}
use Rattle.tree_io.specs.declared.file_at.FileAt.{FileAt}
use Rattle.class_files.specs.Output.{put_all, StopsAt, StopsWithin}
use Rattle.command_frame.specs.Answer as frame
use Rattle.command_frame.specs.Answer.{StopsBefore, Unwritten}
use Rattle.command_frame.specs.Output.{Outside}
use Rattle.command_frame.specs.Refusal as refusal
use Rattle.command_frame.specs.declared.refusal.Refusal.{Refusal}
use Rattle.command_frame.specs.declared.stop.Stop.{Stop}
use Rattle.command_frame.specs.declared.stop.Stop.TheVariants.{Refused, Device, OutOfMemory}
use Rattle.batch_command.specs.Batch.{IsJoined}
use Rattle.batch_command.specs.declared.joined.Batch.{Batch}

-- the batch was done; or it stopped before; or its files were written, and the device failed at its reports or memory was
-- wanting for them
pub data Ending : Type 0 where
  done : Batch → Ending
  stopped : Stop → Ending
  text_failed : Batch → Ending
  text_without_memory : Batch → Ending

-- the same of one command that has the batch's plan
abbrev pub as_one : Ending → frame.Ending
as_one (done batch) = frame.done batch.plan
as_one (stopped stop) = frame.stopped stop
as_one (text_failed batch) = frame.text_failed batch.plan
as_one (text_without_memory batch) = frame.text_without_memory batch.plan

abbrev pub status_of : Ending → ℕ
status_of (done batch) = batch.status
status_of (stopped stop) = refusal.status_of stop
status_of (text_failed batch) = refusal.status_of Device
status_of (text_without_memory batch) = refusal.status_of OutOfMemory

-- ---- files

-- the calls were to write the files of a batch and nothing else, in their order; of any files that they fit the batch is
-- the one that is due, and its files were put
pub record Writes (IsDue : Files → Result Batch Refusal → Type 0) (batch : Batch) (calls : List Event) : Type 0 where
  pub made : IsJoined batch
  pub wrote : files_to_write calls ≡ batch.plan.files
  pub had_memory : without_memory calls ≡ []
  pub due : (old new : Files) → Run calls old new → IsDue old (Ok batch)
  pub put : (old new : Files) → Run calls old new → new ≡ put_all old batch.plan.files

-- the calls wrote nothing; of any files that they fit the refusal is the one that is due
pub record Refuses (IsDue : Files → Result Batch Refusal → Type 0) (refusal : Refusal) (calls : List Event) : Type 0 where
  pub had_memory : without_memory calls ≡ []
  pub due : (old new : Files) → Run calls old new → IsDue old (Err refusal)
  pub unwritten : Unwritten calls

-- the calls were to write a front of the files of a batch, in their order, up to this one; of any files that they fit
-- the batch is the one that is due, and so they were left
pub record WritesUntil (IsDue : Files → Result Batch Refusal → Type 0)
    (Left : List FileAt → ℕ → FileAt → Files → Files → Type 0) (calls : List Event) : Type 0 where
  pub batch : Batch
  pub number : ℕ
  pub next : FileAt
  pub made : IsJoined batch
  pub at : StopsAt batch.plan.files number next calls
  pub due : (old new : Files) → Run calls old new → IsDue old (Ok batch)
  pub left : (old new : Files) → Run calls old new → Left batch.plan.files number next old new

-- the device failed, before the first file was written or at one of them
pub record Fails (IsDue : Files → Result Batch Refusal → Type 0) (calls : List Event) : Type 0 where
  pub had_memory : without_memory calls ≡ []
  pub left : Unwritten calls ⊎ WritesUntil IsDue StopsWithin calls

-- a refusal; or the device failed; or memory was wanting, before the first file was written or at one of them
abbrev pub StopsSo : (Files → Result Batch Refusal → Type 0) → Stop → List Event → Type 0
StopsSo IsDue (Refused refusal) calls = Refuses IsDue refusal calls
StopsSo IsDue Device calls = Fails IsDue calls
StopsSo IsDue OutOfMemory calls = Unwritten calls ⊎ WritesUntil IsDue StopsBefore calls

abbrev pub LeavesSo : (Files → Result Batch Refusal → Type 0) → Ending → List Event → Type 0
LeavesSo IsDue (done batch) calls = Writes IsDue batch calls
LeavesSo IsDue (stopped stop) calls = StopsSo IsDue stop calls
LeavesSo IsDue (text_failed batch) calls = Writes IsDue batch calls
LeavesSo IsDue (text_without_memory batch) calls = Writes IsDue batch calls

-- ---- the whole

-- a batch has this ending: its status, the device that is blamed, what the tree was asked and what became of files that
-- fit its answers, what was said
pub record Ends (IsDue : Files → Result Batch Refusal → Type 0) (ending : Ending) (status : ℕ) (before after : Outside)
    : Type 0 where
  pub answered : status ≡ status_of ending
  pub blamed : frame.Blames (as_one ending) before after
  pub left : AddsCalls before.calls after.calls before.files after.files (LeavesSo IsDue ending)
  pub said : frame.SaidSo (as_one ending) before.out after.out

-- what a run has done of which this is due
abbrev pub Ended : (Files → Result Batch Refusal → Type 0) → ℕ → Outside → Outside → Type 0
Ended IsDue status before after = (ending : Ending) × Ends IsDue ending status before after
