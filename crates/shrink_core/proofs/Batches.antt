-- A batch of shrinks does what `shrink` does for each job.
use Rattle.std.proofs.Common.{◌≡◌, ◌∙◌, ap, sym, subst, ℕ, List, [], ◌∷◌, Option, Result, Ok, Err}
use Rattle.std.specs.List.{AllZip}
use Rattle.std.specs.Prelude.{IfOk}
use Rattle.jv_base.proofs.Results.{same_fault, same_ok}
use Rattle.tree_io.specs.Files.{Files}
use Rattle.tree_io.specs.declared.file_at.FileAt.{FileAt}
use Rattle.batch_command.specs.Batch.{IsDue}
use Rattle.batch_command.specs.Jobs.{AreClassFiles, IsJob, input_of}
use Rattle.batch_command.specs.declared.work.JobConfig.{JobConfig}
use Rattle.batch_command.specs.declared.joined.Batch.{Batch as Joined}
use Rattle.batch_command.proofs.OfJobs.{is_of_jobs}
use Rattle.batch_list.specs.declared.line.JobFiles.{JobFiles}
use Rattle.keep_rules.specs.declared.rules.Rules.{Rules}
use Rattle.command_frame.proofs.OneStep.{no_err}
use Rattle.command_frame.specs.Steps.{Then, follows, stops}
use Rattle.command_frame.specs.declared.command.Plan.{Plan}
use Rattle.command_frame.specs.declared.refusal.Refusal.{Refusal}
use Rattle.command_frame.specs.declared.stop.Stop.{Stop}
use Rattle.command_steps.specs.Config.{IsConfigApart}
use Rattle.command_steps.specs.Sets as steps
use Rattle.command_steps.specs.Sets.{IsDirectory}
use Rattle.command_steps.specs.Texts.{IsEarlier}
use Rattle.mapping_file.specs.declared.mapping.Mapping.{Mapping}
use Rattle.shrink_command.specs.Due as shrink
use Rattle.shrink_core.specs.Batches.{DoesShrinks, IsApplied, IsOfShrinks, shrink_of, shrink_parts}

-- a step behind two others is one behind the second of them, behind the first
then_then : {A B C : Type 0} (First : Result A Refusal → Type 0) (Next : A → Result B Refusal → Type 0)
    (Last : B → Result C Refusal → Type 0) (due : Result C Refusal) → Then (Then First Next) Last due
    → Then First (λ x. Then (Next x) Last) due
then_then First Next Last due (stops refusal (stops r h is) e) = stops r h (e ∙ ap Err (same_fault refusal r is))
then_then First Next Last due (stops refusal (follows x h k) e) = follows x h (stops refusal k e)
then_then First Next Last due (follows y (stops r h is) k) = absurd (no_err y r is)
then_then First Next Last due (follows y (follows x h n) k) = follows x h (follows y n k)

-- a job behind its config
abbrev behind_config : Files → JobConfig → Result Plan Refusal → Type 0
behind_config files config =
    Then (shrink_parts.input files config.rules) (λ inputs. shrink_parts.plan (input_of config inputs))

abbrev job_config : JobFiles → Rules → Option Mapping → JobConfig
job_config job rules earlier = record { files = job; rules = rules; earlier = earlier }

-- behind the earlier mapping a job does what `shrink` does
input_shrinks : (files : Files) (job : JobFiles) (rules : Rules) (earlier : Option Mapping)
    (due : Result Plan Refusal) → behind_config files (job_config job rules earlier) due
    → shrink.FollowsEarlier files job.witness rules earlier due
input_shrinks files job rules earlier due k =
    then_then (shrink.IsEmptied files rules.out_dir) (λ done. IsDirectory files rules.in_dir)
    (shrink.FollowsInput rules earlier job.witness) due k

given_shrinks : (files : Files) (job : JobFiles) (rules : Rules) (earlier : Option Mapping) (due : Result Plan Refusal)
    → Then (λ (d : Result JobConfig Refusal). d ≡ Ok (job_config job rules earlier)) (behind_config files) due
    → shrink.FollowsEarlier files job.witness rules earlier due
given_shrinks files job rules earlier due (stops refusal is e) = absurd (no_err (job_config job rules earlier) refusal (sym is))
given_shrinks files job rules earlier due (follows config is k) =
    input_shrinks files job rules earlier due
    (subst (λ (c : JobConfig). behind_config files c due) (same_ok config (job_config job rules earlier) is) k)

-- behind its rules too
applied_shrinks : (files : Files) (job : JobFiles) (rules : Rules) (due : Result Plan Refusal)
    → Then (IsApplied files job rules) (behind_config files) due → shrink.FollowsRules files job.witness rules due
applied_shrinks files job rules due h =
    by_earlier (then_then (IsEarlier files rules.apply)
    (λ earlier (d : Result JobConfig Refusal). d ≡ Ok (job_config job rules earlier)) (behind_config files) due h)
  where
    by_earlier : Then (IsEarlier files rules.apply)
        (λ earlier. Then (λ (d : Result JobConfig Refusal). d ≡ Ok (job_config job rules earlier)) (behind_config files)) due
        → shrink.FollowsRules files job.witness rules due
    by_earlier (stops refusal k is) = stops refusal k is
    by_earlier (follows earlier k l) = follows earlier k (given_shrinks files job rules earlier due l)

-- a job does what `shrink` does
job_shrinks : (files : Files) (job : JobFiles) (due : Result Plan Refusal) → IsJob shrink_parts files job due
    → shrink.IsDue (shrink_of job) files due
job_shrinks files job due h =
    by_rules (then_then (IsConfigApart files job.config job.witness) (IsApplied files job) (behind_config files) due h)
  where
    by_rules : Then (IsConfigApart files job.config job.witness)
        (λ rules. Then (IsApplied files job rules) (behind_config files)) due → shrink.IsDue (shrink_of job) files due
    by_rules (stops refusal k is) = stops refusal k is
    by_rules (follows rules k l) = follows rules k (applied_shrinks files job rules due l)

all_shrink : (files : Files) (jobs : List JobFiles) (answers : List (Result Plan Refusal))
    → AllZip (IsJob shrink_parts files) jobs answers
    → AllZip (λ job. shrink.IsDue (shrink_of job) files) jobs answers
all_shrink files [] [] h = tt
all_shrink files [] (a ∷ answers) h = absurd h
all_shrink files (j ∷ jobs) [] h = absurd h
all_shrink files (j ∷ jobs) (a ∷ answers) h = (job_shrinks files j a h.0, all_shrink files jobs answers h.1)

pub is_of_shrinks : IsOfShrinks
is_of_shrinks files list batch due =
    let d = is_of_jobs shrink_parts files list batch due in
    record {
      jobs = d.jobs;
      answers = d.answers;
      listed = d.listed;
      each = all_shrink files d.jobs d.answers d.each;
      joined = d.joined;
    }

-- ---- class files

-- class files as they are read for one command are such as are read for a batch
pub taken_so : (r : Result (List FileAt) Stop) → IfOk r steps.AreClassFiles → IfOk r AreClassFiles
taken_so (Ok files) h = record { ascending = h.ascending; short = h.short }
taken_so (Err stop) h = tt
