-- What a run leaves of files that the tree tells (the project's own: the clause on calls, read at told files).
use Rattle.std.specs.Prelude.{◌≡◌, ◌⊎◌, ℕ, List, Some, Result, Ok, Err}
use Rattle.tree_io.specs.Files.{Files}
use Rattle.tree_io.specs.declared.file_at.FileAt.{FileAt}
use Rattle.class_files.specs.Output.{put_all, StopsWithin}
use Rattle.command_frame.specs.Answer.{Ended, Ending, StopsBefore}
use Rattle.command_frame.specs.Answer.{done, status_of, stopped, text_failed, text_without_memory}
use Rattle.command_frame.specs.Output.{Outside}
use Rattle.command_frame.specs.declared.command.Plan.{Plan}
use Rattle.command_frame.specs.declared.refusal.Refusal.{Refusal}
use Rattle.command_frame.specs.declared.stop.Stop.{Stop}
use Rattle.command_frame.specs.declared.stop.Stop.TheVariants.{Refused, Device, OutOfMemory}

-- the plan was due, and its files were put
abbrev pub LeavesPut : (Files → Result Plan Refusal → Type 0) → Plan → Files → Files → Type 0
LeavesPut IsDue plan old new = IsDue old (Ok plan) × (new ≡ put_all old plan.files)

-- nothing has changed; or a plan was due, and its files were put up to one of them
abbrev pub LeavesSome : (Files → Result Plan Refusal → Type 0)
    → (List FileAt → ℕ → FileAt → Files → Files → Type 0) → Files → Files → Type 0
LeavesSome IsDue Left old new = (new ≡ old)
    ⊎ ((plan : Plan) × (number : ℕ) × (next : FileAt) × IsDue old (Ok plan) × Left plan.files number next old new)

-- a refusal was due, and nothing has changed; or it stopped before a file or at it
abbrev pub LeavesStopped : (Files → Result Plan Refusal → Type 0) → Stop → Files → Files → Type 0
LeavesStopped IsDue (Refused refusal) old new = IsDue old (Err refusal) × (new ≡ old)
LeavesStopped IsDue Device old new = LeavesSome IsDue StopsWithin old new
LeavesStopped IsDue OutOfMemory old new = LeavesSome IsDue StopsBefore old new

abbrev pub Leaves : (Files → Result Plan Refusal → Type 0) → Ending → Files → Files → Type 0
Leaves IsDue (done plan) old new = LeavesPut IsDue plan old new
Leaves IsDue (stopped stop) old new = LeavesStopped IsDue stop old new
Leaves IsDue (text_failed plan) old new = LeavesPut IsDue plan old new
Leaves IsDue (text_without_memory plan) old new = LeavesPut IsDue plan old new

-- of files that are told before a run, those after it are told, and are as its ending leaves them
abbrev pub LeavesTold : (Plan → Type 0) → (Files → Result Plan Refusal → Type 0) → Type 0
LeavesTold Plans IsDue = (status : ℕ) (before after : Outside) (old : Files) → before.files ≡ Some old
    → Ended Plans IsDue status before after
    → (ending : Ending) × (status ≡ status_of ending) × (new : Files) × (after.files ≡ Some new)
    × Leaves IsDue ending old new
