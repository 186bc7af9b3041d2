-- How a run of a batch ends.
use Rattle.std.proofs.Common.{◌≡◌, ◌≢◌, ◌<◌, ℕ, Bool, true, false, List, [], ◌∷◌, ◌++◌, Option, Result, Ok, Err}
use Rattle.std.proofs.Common.{refl, sym, inl, inr, arith, ap, subst, ◌∙◌}
use Rattle.std.specs.Prelude.{IsErrOf, ◌==◌, if◌then◌else◌}
use Rattle.std.proofs.lemmas.List.Elements.{filter-append}
use Rattle.tree_io.specs.Count.{Rose}
use Rattle.tree_io.specs.Event.{files_to_write, wants_memory, without_memory}
use Rattle.tree_io.specs.Files.{Files}
use Rattle.tree_io.specs.Runs.{AddsCalls, Run, memory_faults}
use Rattle.tree_io.specs.declared.event.Event.{Event}
use Rattle.tree_io.specs.declared.faults.WriteFault.{WriteFault}
use Rattle.tree_io.specs.declared.faults.WriteFault.TheVariants as written
use Rattle.tree_io.specs.declared.file_at.FileAt.{FileAt}
use Rattle.tree_io.proofs.Runs.{made_both, made_so, run_parts, same_count, unchanged, wrote_both}
use Rattle.class_files.specs.Output as output
use Rattle.command_frame.specs.Answer.{StopsBefore, Unwritten}
use Rattle.command_frame.specs.Output.{Output, Outside, outside}
use Rattle.command_frame.specs.Refusal.{reason_status}
use Rattle.command_frame.specs.Saying.{Says}
use Rattle.command_frame.specs.declared.command.Plan.{Plan}
use Rattle.command_frame.specs.declared.refusal.Reason.{Reason}
use Rattle.command_frame.specs.declared.refusal.Reason.TheVariants as reason
use Rattle.command_frame.specs.declared.refusal.Refusal.{Refusal}
use Rattle.command_frame.specs.declared.stop.Stop.{Stop}
use Rattle.command_frame.specs.declared.stop.Stop.TheVariants.{Refused, Device, OutOfMemory}
use Rattle.batch_command.specs.Answer.{Ended, Ending, LeavesSo, StopsSo, Writes, done, status_of, stopped}
use Rattle.batch_command.specs.Answer.{text_failed, text_without_memory}
use Rattle.batch_command.specs.Batch.{IsJoined, batch_of, first_status}
use Rattle.batch_command.specs.Batch as texts
use Rattle.batch_command.specs.Finding.{Showed, Shows}
use Rattle.batch_command.specs.bodies.Steps.{CarriesOut, SaysBatch}
use Rattle.batch_command.specs.declared.joined.Batch.{Batch}
use Rattle.batch_command.proofs.Finding.{had}

abbrev pub no_batch : Stop → Result Batch Stop
no_batch stop = Err stop

-- ---- what calls leave that follow others which wrote nothing

written_after : (es fs : List Event) → files_to_write es ≡ [] → files_to_write (es ++ fs) ≡ files_to_write fs
written_after es fs none = wrote_both es fs ∙ ap (λ (l : List FileAt). l ++ files_to_write fs) none

left_after : (es fs : List Event) (Left : Files → Files → Type 0) → files_to_write es ≡ []
    → ((old new : Files) → Run fs old new → Left old new)
    → (old new : Files) → Run (es ++ fs) old new → Left old new
left_after es fs Left none left old new run =
    let parts = run_parts es fs old new run in
    subst (λ (m : Files). Left m new) (unchanged es old parts.0 none parts.1) (left parts.0 new parts.2)

memory_both : (es fs : List Event) → without_memory es ≡ [] → without_memory fs ≡ [] → without_memory (es ++ fs) ≡ []
memory_both es fs p q =
    filter-append wants_memory es fs ∙ ap (λ (l : List Event). l ++ without_memory fs) p ∙ q

unwritten : (calls : List Event) → files_to_write calls ≡ [] → Unwritten calls
unwritten calls none = record { wrote = none; same = λ old new. unchanged calls old new none }

abbrev pub stop_of : WriteFault → Stop
stop_of written.Failed = Device
stop_of written.OutOfMemory = OutOfMemory

module _ (IsDue : Files → Result Batch Refusal → Type 0) where
  -- ---- the files

  -- no batch was made
  stopped_before : (stop : Stop) (calls : List Event) → Showed (no_batch stop) IsDue calls → StopsSo IsDue stop calls
  stopped_before (Refused refusal) calls p =
      record { had_memory = p.had_memory; due = p.holds; unwritten = unwritten calls p.wrote }
  stopped_before Device calls p = record { had_memory = p.had_memory; left = inl (unwritten calls p.wrote) }
  stopped_before OutOfMemory calls p = inl (unwritten calls p)

  pub stopped_seen : (stop : Stop) (a b : List Event) (x y : Option Files)
      → AddsCalls a b x y (Showed (no_batch stop) IsDue) → AddsCalls a b x y (CarriesOut IsDue (no_batch stop))
  stopped_seen stop a b x y p =
      made_so (Showed (no_batch stop) IsDue) (StopsSo IsDue stop) a b x y (stopped_before stop) p

  module _ (batch : Batch) (made : IsJoined batch) where
    -- what is due of the files that were found is due before they are written
    due_before : (es fs : List Event) → Shows (λ files. IsDue files (Ok batch)) es
        → (old new : Files) → Run (es ++ fs) old new → IsDue old (Ok batch)
    due_before es fs p old new run = let parts = run_parts es fs old new run in p.holds old parts.0 parts.1

    wrote_all : (es fs : List Event) → Shows (λ files. IsDue files (Ok batch)) es
        → output.Writes (Ok tt) batch.plan.files fs → Writes IsDue batch (es ++ fs)
    wrote_all es fs p q = record {
      made = made;
      wrote = written_after es fs p.wrote ∙ q.0.wrote;
      had_memory = memory_both es fs p.had_memory q.0.had_memory;
      due = due_before es fs p;
      put = left_after es fs (λ old new. new ≡ output.put_all old batch.plan.files) p.wrote q.1;
    }

    wrote_until : (fault : WriteFault) (es fs : List Event) → Shows (λ files. IsDue files (Ok batch)) es
        → output.Writes (Err fault) batch.plan.files fs → StopsSo IsDue (stop_of fault) (es ++ fs)
    wrote_until written.Failed es fs p q = record {
      had_memory = memory_both es fs p.had_memory q.3.had_memory;
      left = inr (record {
        batch = batch;
        number = q.0;
        next = q.1;
        made = made;
        at = record { is_next = q.2.is_next; wrote = written_after es fs p.wrote ∙ q.2.wrote };
        due = due_before es fs p;
        left = left_after es fs (output.StopsWithin batch.plan.files q.0 q.1) p.wrote q.4;
      });
    }
    wrote_until written.OutOfMemory es fs p q = inr (record {
      batch = batch;
      number = q.0;
      next = q.1;
      made = made;
      at = record { is_next = q.2.is_next; wrote = written_after es fs p.wrote ∙ q.2.wrote };
      due = due_before es fs p;
      left = left_after es fs (StopsBefore batch.plan.files q.0 q.1) p.wrote q.3;
    })

    pub all_written : (a b c : List Event) (x y z : Option Files)
        → AddsCalls a b x y (Showed (had batch) IsDue)
        → AddsCalls b c y z (output.Writes (Ok tt) batch.plan.files)
        → AddsCalls a c x z (CarriesOut IsDue (Ok batch))
    all_written a b c x y z p q =
        made_both (Showed (had batch) IsDue) (output.Writes (Ok tt) batch.plan.files) (Writes IsDue batch) a b c x y z
        wrote_all p q

    pub writing_stopped : (fault : WriteFault) (a b c : List Event) (x y z : Option Files)
        → AddsCalls a b x y (Showed (had batch) IsDue)
        → AddsCalls b c y z (output.Writes (Err fault) batch.plan.files)
        → AddsCalls a c x z (CarriesOut IsDue (no_batch (stop_of fault)))
    writing_stopped fault a b c x y z p q =
        made_both (Showed (had batch) IsDue) (output.Writes (Err fault) batch.plan.files)
        (StopsSo IsDue (stop_of fault)) a b c x y z (wrote_until fault) p q

  -- ---- what was said

  -- the files were written
  pub finished : (batch : Batch) (status : ℕ) (x y : Option Files) (f f2 : ℕ) (a b : List Event) (old new : Output)
      → AddsCalls a b x y (Writes IsDue batch) → SaysBatch batch status old new
      → (status ≡ 7 → Rose old.faults new.faults)
      → Ended IsDue status (outside x f a old) (outside y f2 b new)
  finished batch status x y f f2 a b old new left (inl said) rose =
      (done batch, record { answered = said.0; blamed = tt; left = left; said = said.1 })
  finished batch status x y f f2 a b old new left (inr (inl said)) rose =
      (text_failed batch, record { answered = said.0; blamed = rose said.0; left = left; said = said.1 })
  finished batch status x y f f2 a b old new left (inr (inr said)) rose =
      (text_without_memory batch, record { answered = said.0; blamed = tt; left = left; said = said.1 })

  -- where there is no memory for the line of a refusal, the files are as they were all the same
  unsaid : (refusal : Refusal) (x y : Option Files) (a b : List Event)
      → AddsCalls a b x y (StopsSo IsDue (Refused refusal)) → AddsCalls a b x y (StopsSo IsDue OutOfMemory)
  unsaid refusal x y a b left =
      made_so (StopsSo IsDue (Refused refusal)) (StopsSo IsDue OutOfMemory) a b x y (λ calls p. inl p.unwritten) left

  -- the batch stopped before
  pub ended_before : (stop : Stop) (status : ℕ) (x y : Option Files) (f f2 : ℕ) (a b : List Event) (old new : Output)
      → (IsErrOf (no_batch stop) Device → Rose f f2) → AddsCalls a b x y (StopsSo IsDue stop)
      → Says stop status old new
      → Ended IsDue status (outside x f a old) (outside y f2 b new)
  ended_before (Refused refusal) status x y f f2 a b old new rose left (inl said) =
      (stopped (Refused refusal), record { answered = said.0; blamed = tt; left = left; said = said.1 })
  ended_before (Refused refusal) status x y f f2 a b old new rose left (inr said) = (
    stopped OutOfMemory,
    record { answered = said.0; blamed = tt; left = unsaid refusal x y a b left; said = said.1 },
  )
  ended_before Device status x y f f2 a b old new rose left said =
      (stopped Device, record { answered = said.0; blamed = rose refl; left = left; said = said.1 })
  ended_before OutOfMemory status x y f f2 a b old new rose left said =
      (stopped OutOfMemory, record { answered = said.0; blamed = tt; left = left; said = said.1 })

  -- ---- memory

  -- where the count rose, the answer says so
  lacked : (ending : Ending) (status : ℕ) (a b calls : List Event) → b ≡ a ++ calls
      → LeavesSo IsDue ending calls
      → status ≡ status_of ending → memory_faults a < memory_faults b → status ≡ 10
  lacked (done batch) status a b calls is left answered rose =
      absurd omega (arith, rose, same_count a b calls is left.had_memory)
  lacked (text_failed batch) status a b calls is left answered rose =
      absurd omega (arith, rose, same_count a b calls is left.had_memory)
  lacked (text_without_memory batch) status a b calls is left answered rose = answered
  lacked (stopped (Refused refusal)) status a b calls is left answered rose =
      absurd omega (arith, rose, same_count a b calls is left.had_memory)
  lacked (stopped Device) status a b calls is left answered rose =
      absurd omega (arith, rose, same_count a b calls is left.had_memory)
  lacked (stopped OutOfMemory) status a b calls is left answered rose = answered

  pub answers_memory : (status : ℕ) (before after : Outside) → Ended IsDue status before after
      → memory_faults before.calls < memory_faults after.calls → status ≡ 10
  answers_memory status before after ended rose =
      lacked ended.0 status before.calls after.calls ended.1.left.0 ended.1.left.1 ended.1.left.3 ended.1.answered rose

-- ---- statuses

-- a status that no refusal has
pub data IsFree (status : ℕ) : Type 0 where
  words : status ≡ 1 → IsFree status
  device : status ≡ 7 → IsFree status

no_reason : (status : ℕ) → IsFree status → (r : Reason) → reason_status r ≢ status
no_reason status (words is) reason.Absent h = omega (arith, h, is)
no_reason status (words is) reason.Rules h = omega (arith, h, is)
no_reason status (words is) reason.Format h = omega (arith, h, is)
no_reason status (words is) reason.Profile h = omega (arith, h, is)
no_reason status (words is) reason.Limit h = omega (arith, h, is)
no_reason status (words is) reason.NotEmpty h = omega (arith, h, is)
no_reason status (words is) reason.No h = omega (arith, h, is)
no_reason status (words is) reason.Text h = omega (arith, h, is)
no_reason status (words is) reason.Entry h = omega (arith, h, is)
no_reason status (words is) reason.Differs h = omega (arith, h, is)
no_reason status (words is) reason.Item h = omega (arith, h, is)
no_reason status (words is) reason.Overlap h = omega (arith, h, is)
no_reason status (device is) reason.Absent h = omega (arith, h, is)
no_reason status (device is) reason.Rules h = omega (arith, h, is)
no_reason status (device is) reason.Format h = omega (arith, h, is)
no_reason status (device is) reason.Profile h = omega (arith, h, is)
no_reason status (device is) reason.Limit h = omega (arith, h, is)
no_reason status (device is) reason.NotEmpty h = omega (arith, h, is)
no_reason status (device is) reason.No h = omega (arith, h, is)
no_reason status (device is) reason.Text h = omega (arith, h, is)
no_reason status (device is) reason.Entry h = omega (arith, h, is)
no_reason status (device is) reason.Differs h = omega (arith, h, is)
no_reason status (device is) reason.Item h = omega (arith, h, is)
no_reason status (device is) reason.Overlap h = omega (arith, h, is)

free_not_0 : (status : ℕ) → IsFree status → 0 ≢ status
free_not_0 status (words is) h = omega (arith, h, is)
free_not_0 status (device is) h = omega (arith, h, is)

no_answer : (status : ℕ) → IsFree status → (answer : Result Plan Refusal) → texts.status_of answer ≢ status
no_answer status free (Ok plan) h = free_not_0 status free h
no_answer status free (Err refusal) h = no_reason status free refusal.reason h

either_not : (status a b : ℕ) (zero : Bool) → (a ≢ status) → (b ≢ status) → (if zero then b else a) ≢ status
either_not status a b true p q h = q h
either_not status a b false p q h = p h

no_answers : (status : ℕ) → IsFree status → (answers : List (Result Plan Refusal)) → first_status answers ≢ status
no_answers status free [] h = free_not_0 status free h
no_answers status free (answer ∷ answers) h =
    either_not status (texts.status_of answer) (first_status answers) (texts.status_of answer == 0)
    (no_answer status free answer) (no_answers status free answers) h

-- the status of jobs is another one
pub no_batch_status : (status : ℕ) → IsFree status → (b : Batch) → IsJoined b → b.status ≢ status
no_batch_status status free b joined h =
    no_answers status free joined.0 (ap (λ (x : Batch). x.status) (sym joined.1) ∙ h)
