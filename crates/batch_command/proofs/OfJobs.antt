-- What holds of batches that are due, and what they leave of files that a tree tells.
use Rattle.std.proofs.Common.{◌≡◌, ◌⊎◌, ℕ, List, [], ◌∷◌, Option, Some, Result, Ok, Err, inl, inr, subst}
use Rattle.std.specs.List.{AllZip}
use Rattle.jv_base.proofs.Results.{same_ok}
use Rattle.tree_io.specs.Files.{Files}
use Rattle.tree_io.specs.Runs.{Run, Tells}
use Rattle.tree_io.specs.declared.event.Event.{Event}
use Rattle.tree_io.specs.declared.file_at.FileAt.{FileAt}
use Rattle.class_files.specs.Output.{StopsWithin}
use Rattle.batch_list.specs.declared.line.JobFiles.{JobFiles}
use Rattle.command_frame.specs.Answer.{StopsBefore, Unwritten}
use Rattle.command_frame.specs.Steps.{Then, follows, stops}
use Rattle.command_frame.specs.declared.command.Plan.{Plan}
use Rattle.command_frame.specs.declared.refusal.Refusal.{Refusal}
use Rattle.command_frame.specs.declared.stop.Stop.{Stop}
use Rattle.command_frame.specs.declared.stop.Stop.TheVariants.{Refused, Device, OutOfMemory}
use Rattle.command_frame.proofs.OneStep.{both_gave}
use Rattle.batch_command.specs.Answer.{Ending, LeavesSo, StopsSo, WritesUntil, done, stopped, text_failed}
use Rattle.batch_command.specs.Answer.{text_without_memory}
use Rattle.batch_command.specs.Batch.{IsDue, batch_of}
use Rattle.batch_command.specs.Jobs.{AreAnswers, AreApart, AreInputs, AreListed, Each, FollowsApart, FollowsConfigs}
use Rattle.batch_command.specs.Jobs.{JobInput}
use Rattle.batch_command.specs.Jobs.{FollowsList, IsInput, IsJob, IsPlan, Parts, input_of}
use Rattle.batch_command.specs.Laws.{DoesJobs, IsOfJobs, Leaves, LeavesSome, LeavesStopped, LeavesTold}
use Rattle.batch_command.specs.declared.joined.Batch.{Batch}
use Rattle.batch_command.specs.declared.work.JobConfig.{JobConfig}

-- ---- one job

module _ (parts : Parts) (files : Files) where
  -- behind its config
  abbrev Behind : JobConfig → Result Plan Refusal → Type 0
  Behind config = Then (parts.input files config.rules) (λ inputs. parts.plan (input_of config inputs))

  -- of an input its plan is due, and of a refusal the refusal
  plan_refused : (refusal : Refusal) (input : Result JobInput Refusal) (answer : Result Plan Refusal)
      → input ≡ Err refusal → IsPlan parts input answer → answer ≡ Err refusal
  plan_refused refusal input answer is h =
      subst (λ (i : Result JobInput Refusal). IsPlan parts i answer) is h

  plan_given : (given : JobInput) (input : Result JobInput Refusal) (answer : Result Plan Refusal)
      → input ≡ Ok given → IsPlan parts input answer → parts.plan given answer
  plan_given given input answer is h =
      subst (λ (i : Result JobInput Refusal). IsPlan parts i answer) is h

  -- a job that has a config
  input_plan : (config : JobConfig) (input : Result JobInput Refusal) (answer : Result Plan Refusal)
      → IsInput parts files (Ok config) input → IsPlan parts input answer → Behind config answer
  input_plan config input answer (stops refusal h is) p = stops refusal h (plan_refused refusal input answer is p)
  input_plan config input answer (follows inputs h is) p =
      follows inputs h (plan_given (input_of config inputs) input answer is p)

  config_plan : (job : JobFiles) (config : Result JobConfig Refusal) (input : Result JobInput Refusal)
      (answer : Result Plan Refusal) → parts.config files job config → IsInput parts files config input
      → IsPlan parts input answer → IsJob parts files job answer
  config_plan job (Err refusal) input answer h i p = stops refusal h (plan_refused refusal input answer i p)
  config_plan job (Ok config) input answer h i p = follows config h (input_plan config input answer i p)

  -- all jobs
  all_plans : (jobs : List JobFiles) (configs : List (Result JobConfig Refusal))
      (inputs : List (Result JobInput Refusal)) (answers : List (Result Plan Refusal))
      → AllZip (parts.config files) jobs configs → AllZip (IsInput parts files) configs inputs
      → AllZip (IsPlan parts) inputs answers → AllZip (IsJob parts files) jobs answers
  all_plans [] [] [] [] c i p = tt
  all_plans [] [] [] (a ∷ answers) c i p = absurd p
  all_plans [] [] (x ∷ inputs) answers c i p = absurd i
  all_plans [] (x ∷ configs) inputs answers c i p = absurd c
  all_plans (j ∷ jobs) [] inputs answers c i p = absurd c
  all_plans (j ∷ jobs) (x ∷ configs) [] answers c i p = absurd i
  all_plans (j ∷ jobs) (x ∷ configs) (y ∷ inputs) [] c i p = absurd p
  all_plans (j ∷ jobs) (x ∷ configs) (y ∷ inputs) (a ∷ answers) c i p =
      (config_plan j x y a c.0 i.0 p.0, all_plans jobs configs inputs answers c.1 i.1 p.1)

-- ---- the whole

module _ (parts : Parts) (files : Files) (list : List ℕ) where
  answered_apart : (jobs : List JobFiles) (configs : List (Result JobConfig Refusal))
      (answers : List (Result Plan Refusal)) → AllZip (parts.config files) jobs configs
      → FollowsApart parts files configs (Ok answers) → AllZip (IsJob parts files) jobs answers
  answered_apart jobs configs answers c h =
      let both = both_gave (AreInputs parts files configs) (Each (IsPlan parts)) answers h in
      all_plans parts files jobs configs both.0 answers c both.1.0 both.2

  answered_each : (jobs : List JobFiles) (answers : List (Result Plan Refusal))
      → FollowsList parts list files jobs (Ok answers) → AllZip (IsJob parts files) jobs answers
  answered_each jobs answers h =
      let configs = both_gave (Each (parts.config files) jobs) (FollowsConfigs parts list files) answers h in
      let apart = both_gave (AreApart list configs.0) (λ done. FollowsApart parts files configs.0) answers configs.2 in
      answered_apart jobs configs.0 answers configs.1 apart.2

  does_jobs : (batch : Batch) → IsDue parts list files (Ok batch) → DoesJobs parts files list batch
  does_jobs batch h =
      let joined = both_gave (AreAnswers parts list files)
      (λ answers (due : Result Batch Refusal). due ≡ Ok (batch_of answers)) batch h in
      let listed = both_gave (AreListed files list) (FollowsList parts list files) joined.0 joined.1 in
      record {
        jobs = listed.0;
        answers = joined.0;
        listed = listed.1;
        each = answered_each listed.0 joined.0 listed.2;
        joined = same_ok batch (batch_of joined.0) joined.2;
      }

pub is_of_jobs : (parts : Parts) → IsOfJobs parts
is_of_jobs parts files list batch h = does_jobs parts files list batch h

-- ---- told files

module _ (Due : Files → Result Batch Refusal → Type 0) where
  -- calls that wrote nothing, or files up to one of them
  left_some : (Left : List FileAt → ℕ → FileAt → Files → Files → Type 0) (calls : List Event) (old new : Files)
      → Run calls old new → Unwritten calls ⊎ WritesUntil Due Left calls → LeavesSome Due Left old new
  left_some Left calls old new run (inl none) = inl (none.same old new run)
  left_some Left calls old new run (inr some) =
      inr (some.batch, some.number, some.next, some.due old new run, some.left old new run)

  -- a run that stopped
  left_stopped : (stop : Stop) (calls : List Event) (old new : Files) → Run calls old new
      → StopsSo Due stop calls → LeavesStopped Due stop old new
  left_stopped (Refused refusal) calls old new run h = (h.due old new run, h.unwritten.same old new run)
  left_stopped Device calls old new run h = left_some StopsWithin calls old new run h.left
  left_stopped OutOfMemory calls old new run h = left_some StopsBefore calls old new run h

  -- any run
  left_by : (ending : Ending) (calls : List Event) (old new : Files) → Run calls old new
      → LeavesSo Due ending calls → Leaves Due ending old new
  left_by (done batch) calls old new run h = (h.due old new run, h.put old new run)
  left_by (stopped stop) calls old new run h = left_stopped stop calls old new run h
  left_by (text_failed batch) calls old new run h = (h.due old new run, h.put old new run)
  left_by (text_without_memory batch) calls old new run h = (h.due old new run, h.put old new run)

  -- of told files those that are left are told
  told_after : (old : Files) (before after : Option Files) (calls : List Event) → before ≡ Some old
      → Tells before after calls → (new : Files) × (after ≡ Some new) × Run calls old new
  told_after old before after calls is tells =
      subst (λ (b : Option Files). Tells b after calls) is tells

  pub leaves_told : LeavesTold Due
  leaves_told status before after old is ended =
      let ending = ended.0 in
      let ends = ended.1 in
      let made = ends.left in
      let told = told_after old before.files after.files made.0 is made.2 in
      (ending, ends.answered, told.0, told.1, left_by ending made.0 old told.0 told.2 made.3)
