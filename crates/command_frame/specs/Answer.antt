-- How a run of a command ends: its status, what the tree was asked and what becomes of the files, what is said (the
-- project's own: the command's answers are no part of a standard).
--
-- A command is told by the plans that it may have, whatever the tree answers, and by what is due of told files.
use Rattle.std.specs.Prelude.{◌≡◌, ◌⊎◌, ℕ, List, [], take, Result, Ok, Err}
use Rattle.tree_io.specs.Count.{Rose}
use Rattle.tree_io.specs.Event.{absent_paths, files_to_write, without_memory}
use Rattle.tree_io.specs.Files.{Files}
use Rattle.tree_io.specs.Runs.{Did, AddsCalls, Run}
use Rattle.tree_io.specs.declared.event.Event.{Event}
use Rattle.tree_io.specs.declared.file_at.FileAt.{FileAt}
use Rattle.class_files.specs.Output.{put_all, StopsAt, StopsWithin}
use Rattle.command_frame.specs.Output.{FailsSo, Hands, LacksSo, Output, Outside, Puts}
use Rattle.command_frame.specs.Refusal as refusal
use Rattle.command_frame.specs.Refusal.{absent_by}
use Rattle.command_frame.specs.declared.command.Plan.{Plan}
use Rattle.command_frame.specs.declared.refusal.Refusal.{Refusal}
use Rattle.command_frame.specs.declared.stop.Stop.{Stop}
use Rattle.command_frame.specs.declared.stop.Stop.TheVariants.{Refused, Device, OutOfMemory}

-- the plan was done; or the command stopped before; or its files were written, and the device failed at its text or
-- memory was wanting for that
pub data Ending : Type 0 where
  done : Plan → Ending
  stopped : Stop → Ending
  text_failed : Plan → Ending
  text_without_memory : Plan → Ending

abbrev pub status_of : Ending → ℕ
status_of (done plan) = 0
status_of (stopped stop) = refusal.status_of stop
status_of (text_failed plan) = refusal.status_of Device
status_of (text_without_memory plan) = refusal.status_of OutOfMemory

-- the device that is blamed has failed
abbrev pub Blames : Ending → Outside → Outside → Type 0
Blames (stopped Device) before after = Rose before.file_faults after.file_faults
Blames (text_failed plan) before after = Rose before.out.faults after.out.faults
Blames _ before after = Unit {0}

-- ---- files

-- the calls were to write no file, so files that they fit are as they were
pub record Unwritten (calls : List Event) : Type 0 where
  pub wrote : files_to_write calls ≡ []
  pub same : (old new : Files) → Run calls old new → new ≡ old

-- the calls were to write the files of a plan and nothing else, in their order, and found each file that they read; of
-- any files that they fit the plan is the one that is due, and its files were put
pub record Writes (Plans : Plan → Type 0) (IsDue : Files → Result Plan Refusal → Type 0) (plan : Plan)
    (calls : List Event) : Type 0 where
  pub made : Plans plan
  pub did : Did plan.files [] calls
  pub due : (old new : Files) → Run calls old new → IsDue old (Ok plan)
  pub put : (old new : Files) → Run calls old new → new ≡ put_all old plan.files

-- the calls wrote nothing, and found no file to read just where the refusal says so; of any files that they fit it is
-- the one that is due
pub record Refuses (IsDue : Files → Result Plan Refusal → Type 0) (refusal : Refusal) (calls : List Event) : Type 0 where
  pub did : Did [] (absent_by refusal) calls
  pub due : (old new : Files) → Run calls old new → IsDue old (Err refusal)
  pub unwritten : Unwritten calls

-- the calls were to write a front of the files of a plan, in their order, up to this one; of any files that they fit
-- the plan is the one that is due, and so they were left
pub record WritesUntil (Plans : Plan → Type 0) (IsDue : Files → Result Plan Refusal → Type 0)
    (Left : List FileAt → ℕ → FileAt → Files → Files → Type 0) (calls : List Event) : Type 0 where
  pub plan : Plan
  pub number : ℕ
  pub next : FileAt
  pub made : Plans plan
  pub at : StopsAt plan.files number next calls
  pub due : (old new : Files) → Run calls old new → IsDue old (Ok plan)
  pub left : (old new : Files) → Run calls old new → Left plan.files number next old new

-- the files before the next one were put
abbrev pub StopsBefore : List FileAt → ℕ → FileAt → Files → Files → Type 0
StopsBefore files n next old new = new ≡ put_all old (take n files)

-- the device failed, before the first file was written or at one of them, and each file that was read was there
pub record Fails (Plans : Plan → Type 0) (IsDue : Files → Result Plan Refusal → Type 0) (calls : List Event) : Type 0 where
  pub had_memory : without_memory calls ≡ []
  pub missed : absent_paths calls ≡ []
  pub left : Unwritten calls ⊎ WritesUntil Plans IsDue StopsWithin calls

-- a refusal; or the device failed; or memory was wanting, before the first file was written or at one of them
abbrev pub StopsSo : (Plan → Type 0) → (Files → Result Plan Refusal → Type 0) → Stop → List Event → Type 0
StopsSo Plans IsDue (Refused refusal) calls = Refuses IsDue refusal calls
StopsSo Plans IsDue Device calls = Fails Plans IsDue calls
StopsSo Plans IsDue OutOfMemory calls = Unwritten calls ⊎ WritesUntil Plans IsDue StopsBefore calls

abbrev pub LeavesSo : (Plan → Type 0) → (Files → Result Plan Refusal → Type 0) → Ending → List Event → Type 0
LeavesSo Plans IsDue (done plan) calls = Writes Plans IsDue plan calls
LeavesSo Plans IsDue (stopped stop) calls = StopsSo Plans IsDue stop calls
LeavesSo Plans IsDue (text_failed plan) calls = Writes Plans IsDue plan calls
LeavesSo Plans IsDue (text_without_memory plan) calls = Writes Plans IsDue plan calls

-- ---- text

abbrev pub SaidSo : Ending → Output → Output → Type 0
SaidSo (done plan) old new = Hands plan.text (Ok tt) old new
SaidSo (stopped stop) old new = Puts (refusal.stop_line stop) old new
SaidSo (text_failed plan) old new = FailsSo plan.text old new
SaidSo (text_without_memory plan) old new = LacksSo plan.text old new

-- ---- the whole

-- a command has this ending: its status, the device that is blamed, what the tree was asked and what became of files
-- that fit its answers, what was said
pub record Ends (Plans : Plan → Type 0) (IsDue : Files → Result Plan Refusal → Type 0) (ending : Ending) (status : ℕ)
    (before after : Outside) : Type 0 where
  pub answered : status ≡ status_of ending
  pub blamed : Blames ending before after
  pub left : AddsCalls before.calls after.calls before.files after.files (LeavesSo Plans IsDue ending)
  pub said : SaidSo ending before.out after.out

-- what a run has done of which this is due
abbrev pub Ended : (Plan → Type 0) → (Files → Result Plan Refusal → Type 0) → ℕ → Outside → Outside → Type 0
Ended Plans IsDue status before after = (ending : Ending) × Ends Plans IsDue ending status before after
