-- Where `check` said `ok`, what was read is a pair that does the same.
use Rattle.std.proofs.Common.{◌≡◌, ℕ, List, [], Some, Result, Ok, Err, sym, ap, subst, ◌∙◌, arith}
use Rattle.tree_io.specs.Files.{Files}
use Rattle.tree_io.specs.Runs.{AddsCalls, Did, Sees}
use Rattle.tree_io.specs.declared.event.Event.{Event}
use Rattle.tree_io.specs.declared.file_at.FileAt.{FileAt}
use Rattle.tree_io.proofs.Runs.{made_so}
use Rattle.check_command.proofs.Found.{ok_found}
use Rattle.check_command.specs.Due.{IsDue}
use Rattle.check_command.specs.declared.command.CheckFiles.{CheckFiles}
use Rattle.command_frame.specs.Answer.{Ended, Ending, Ends, Writes, done, stopped, text_failed, text_without_memory}
use Rattle.command_frame.specs.Output.{Outside}
use Rattle.command_frame.specs.Refusal.{reason_status, status_of}
use Rattle.command_frame.specs.declared.command.Plan.{Plan}
use Rattle.command_frame.specs.declared.refusal.Reason.{Reason}
use Rattle.command_frame.specs.declared.refusal.Reason.TheVariants as reason
use Rattle.command_frame.specs.declared.refusal.Refusal.{Refusal}
use Rattle.command_frame.specs.declared.stop.Stop.{Stop}
use Rattle.command_frame.specs.declared.stop.Stop.TheVariants.{Refused, Device, OutOfMemory}
use Rattle.shrink_command.proofs.Paired.{due_pairs}
use Rattle.shrink_command.proofs.SamePair.{pairs_do_the_same, readable}
use Rattle.shrink_command.specs.Due as shrink
use Rattle.shrink_command.specs.declared.command.ShrinkFiles.{ShrinkFiles}
use Rattle.shrink_core.specs.Checked.{Checked, FoundDoTheSame, IsOk, OkDoesTheSame}
use Rattle.shrink_core.specs.Commands.{PairIsDue}

-- ---- the law

pub ok_same : OkDoesTheSame
ok_same files named plan due =
    let p = ok_found named files plan due in (
      p.rules,
      p.texts,
      p.directories,
      p.found,
      pairs_do_the_same p.directories.input p.classes p.directories.output p.texts.mapping p.rules p.texts.witness
          (readable files p.rules.in_dir p.directories.input p.input) p.accepted
          (readable files p.rules.out_dir p.directories.output p.output) p.pair,
    )

-- what is due of `shrink` is a pair
pub pair_due : (named : ShrinkFiles) (files : Files) (due : Result Plan Refusal) → shrink.IsDue named files due
    → PairIsDue named files due
pair_due named files (Ok plan) h = (h, due_pairs files named plan h)
pair_due named files (Err refusal) h = h

-- ---- what a run has done

-- no refusal has the status 0
no_reason : (r : Reason) → reason_status r ≡ 0 → ⊥
no_reason reason.Absent h = omega (arith, h)
no_reason reason.Rules h = omega (arith, h)
no_reason reason.Format h = omega (arith, h)
no_reason reason.Profile h = omega (arith, h)
no_reason reason.Limit h = omega (arith, h)
no_reason reason.NotEmpty h = omega (arith, h)
no_reason reason.No h = omega (arith, h)
no_reason reason.Text h = omega (arith, h)
no_reason reason.Entry h = omega (arith, h)
no_reason reason.Differs h = omega (arith, h)
no_reason reason.Item h = omega (arith, h)
no_reason reason.Overlap h = omega (arith, h)

no_stop : (stop : Stop) → status_of stop ≡ 0 → ⊥
no_stop (Refused refusal) h = no_reason refusal.reason h
no_stop Device h = omega (arith, h)
no_stop OutOfMemory h = omega (arith, h)

-- calls that did what is to be done where `ok` is said
saw : (named : CheckFiles) (plan : Plan) (calls : List Event) → Writes IsOk (IsDue named) plan calls
    → Sees (Some []) (λ files. FoundDoTheSame files named) calls
saw named plan calls w = (
  subst (λ (files : List FileAt). Did files [] calls) (ap (λ (p : Plan). p.files) w.made) w.did,
  λ files left run. ok_same files named plan (w.due files left run),
)

same_so : (ending : Ending) (named : CheckFiles) (status : ℕ) (before after : Outside)
    → Ends IsOk (IsDue named) ending status before after → status ≡ 0
    → AddsCalls before.calls after.calls before.files after.files
    (Sees (Some []) (λ files. FoundDoTheSame files named))
same_so (done plan) named status before after ends zero =
    made_so (Writes IsOk (IsDue named) plan) (Sees (Some []) (λ files. FoundDoTheSame files named)) before.calls
    after.calls before.files after.files (saw named plan) ends.left
same_so (stopped stop) named status before after ends zero = absurd (no_stop stop (sym ends.answered ∙ zero))
same_so (text_failed plan) named status before after ends zero = absurd (no_stop Device (sym ends.answered ∙ zero))
same_so (text_without_memory plan) named status before after ends zero =
    absurd (no_stop OutOfMemory (sym ends.answered ∙ zero))

pub checked : (named : CheckFiles) (status : ℕ) (before after : Outside)
    → Ended IsOk (IsDue named) status before after → Checked named status before after
checked named status before after ended =
    record { ended = ended; same = same_so ended.0 named status before after ended.1 }
