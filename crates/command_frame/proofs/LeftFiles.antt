-- What a run leaves of files that the tree tells.
use Rattle.std.proofs.Common.{◌≡◌, ◌⊎◌, ℕ, List, Option, Some, Result, inl, inr, subst}
use Rattle.tree_io.specs.Files.{Files}
use Rattle.tree_io.specs.Runs.{Run, Tells}
use Rattle.tree_io.specs.declared.event.Event.{Event}
use Rattle.tree_io.specs.declared.file_at.FileAt.{FileAt}
use Rattle.class_files.specs.Output.{StopsWithin}
use Rattle.command_frame.specs.Answer.{Ending, LeavesSo, StopsBefore, StopsSo, Unwritten, WritesUntil}
use Rattle.command_frame.specs.Answer.{done, stopped, text_failed, text_without_memory}
use Rattle.command_frame.specs.LeftFiles.{Leaves, LeavesSome, LeavesStopped, LeavesTold}
use Rattle.command_frame.specs.declared.command.Plan.{Plan}
use Rattle.command_frame.specs.declared.refusal.Refusal.{Refusal}
use Rattle.command_frame.specs.declared.stop.Stop.{Stop}
use Rattle.command_frame.specs.declared.stop.Stop.TheVariants.{Refused, Device, OutOfMemory}

module _ (Plans : Plan → Type 0) (IsDue : Files → Result Plan Refusal → Type 0) where
  -- calls that wrote nothing, or files up to one of them
  left_some : (Left : List FileAt → ℕ → FileAt → Files → Files → Type 0) (calls : List Event) (old new : Files)
      → Run calls old new → Unwritten calls ⊎ WritesUntil Plans IsDue Left calls → LeavesSome IsDue Left old new
  left_some Left calls old new run (inl none) = inl (none.same old new run)
  left_some Left calls old new run (inr some) =
      inr (some.plan, some.number, some.next, some.due old new run, some.left old new run)

  -- a run that stopped
  left_stopped : (stop : Stop) (calls : List Event) (old new : Files) → Run calls old new
      → StopsSo Plans IsDue stop calls → LeavesStopped IsDue stop old new
  left_stopped (Refused refusal) calls old new run h = (h.due old new run, h.unwritten.same old new run)
  left_stopped Device calls old new run h = left_some StopsWithin calls old new run h.left
  left_stopped OutOfMemory calls old new run h = left_some StopsBefore calls old new run h

  -- any run
  left_by : (ending : Ending) (calls : List Event) (old new : Files) → Run calls old new
      → LeavesSo Plans IsDue ending calls → Leaves IsDue ending old new
  left_by (done plan) calls old new run h = (h.due old new run, h.put old new run)
  left_by (stopped stop) calls old new run h = left_stopped stop calls old new run h
  left_by (text_failed plan) calls old new run h = (h.due old new run, h.put old new run)
  left_by (text_without_memory plan) calls old new run h = (h.due old new run, h.put old new run)

  -- of told files those that are left are told
  told_after : (old : Files) (before after : Option Files) (calls : List Event) → before ≡ Some old
      → Tells before after calls → (new : Files) × (after ≡ Some new) × Run calls old new
  told_after old before after calls is tells =
      subst (λ (b : Option Files). Tells b after calls) is tells

  pub leaves_told : LeavesTold Plans IsDue
  leaves_told status before after old is ended =
      let ending = ended.0 in
      let ends = ended.1 in
      let made = ends.left in
      let told = told_after old before.files after.files made.0 is made.2 in
      (ending, ends.answered, told.0, told.1, left_by ending made.0 old told.0 told.2 made.3)
