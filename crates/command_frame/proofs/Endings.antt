-- How a run of a command ends.
use Rattle.std.proofs.Common.{◌≡◌, ◌⊎◌, ◌<◌, ℕ, List, [], ◌++◌, Option, Some, Result, Ok, Err, refl, inl, inr, arith, ap}
use Rattle.std.proofs.Common.{subst, ◌∙◌}
use Rattle.std.specs.Prelude.{IsErrOf}
use Rattle.tree_io.specs.Count.{Rose}
use Rattle.tree_io.specs.Event.{files_to_write}
use Rattle.tree_io.specs.Files.{Files}
use Rattle.tree_io.specs.Runs.{AddsCalls, Run, Sees, memory_faults}
use Rattle.tree_io.specs.declared.event.Event.{Event}
use Rattle.tree_io.specs.declared.faults.WriteFault.{WriteFault}
use Rattle.tree_io.specs.declared.faults.WriteFault.TheVariants as written
use Rattle.tree_io.specs.declared.file_at.FileAt.{FileAt}
use Rattle.tree_io.proofs.Runs.{did_both, made_both, made_so, run_parts, same_count, unchanged, wrote_both}
use Rattle.class_files.specs.Output as output
use Rattle.command_frame.specs.Answer.{Ended, Ending, LeavesSo, StopsBefore, StopsSo, Unwritten}
use Rattle.command_frame.specs.Answer.{Writes, WritesUntil, done, status_of, stopped, text_failed, text_without_memory}
use Rattle.command_frame.specs.Output.{Output, Outside, SaysText, outside}
use Rattle.command_frame.specs.Steps.{Told, missed_by}
use Rattle.command_frame.specs.bodies.Steps.{CarriesOut}
use Rattle.command_frame.specs.Saying.{Says}
use Rattle.command_frame.specs.declared.command.Plan.{Plan}
use Rattle.command_frame.specs.declared.refusal.Refusal.{Refusal}
use Rattle.command_frame.specs.declared.stop.Stop.{Stop}
use Rattle.command_frame.specs.declared.stop.Stop.TheVariants.{Refused, Device, OutOfMemory}

abbrev pub no_plan : Stop → Result Plan Stop
no_plan stop = Err stop

-- ---- what calls leave that follow others which wrote nothing

written_after : (es fs : List Event) → files_to_write es ≡ [] → files_to_write (es ++ fs) ≡ files_to_write fs
written_after es fs none = wrote_both es fs ∙ ap (λ (l : List FileAt). l ++ files_to_write fs) none

left_after : (es fs : List Event) (Left : Files → Files → Type 0) → files_to_write es ≡ []
    → ((old new : Files) → Run fs old new → Left old new)
    → (old new : Files) → Run (es ++ fs) old new → Left old new
left_after es fs Left none left old new run =
    let parts = run_parts es fs old new run in
    subst (λ (m : Files). Left m new) (unchanged es old parts.0 none parts.1) (left parts.0 new parts.2)

unwritten : (calls : List Event) → files_to_write calls ≡ [] → Unwritten calls
unwritten calls none = record { wrote = none; same = λ old new. unchanged calls old new none }

abbrev pub stop_of : WriteFault → Stop
stop_of written.Failed = Device
stop_of written.OutOfMemory = OutOfMemory

module _ (Plans : Plan → Type 0) (IsDue : Files → Result Plan Refusal → Type 0) where
  -- ---- the files

  -- no plan was made
  stopped_before : (stop : Stop) (calls : List Event)
      → Sees (missed_by stop) (λ files. Told (no_plan stop) (IsDue files)) calls → StopsSo Plans IsDue stop calls
  stopped_before (Refused refusal) calls p =
      record { did = p.0; due = p.1; unwritten = unwritten calls p.0.wrote }
  stopped_before Device calls p =
      record { had_memory = p.0.had_memory; missed = p.0.missed; left = inl (unwritten calls p.0.wrote) }
  stopped_before OutOfMemory calls p = inl (unwritten calls p)

  pub stopped_seen : (stop : Stop) (a b : List Event) (x y : Option Files)
      → AddsCalls a b x y (Sees (missed_by stop) (λ files. Told (no_plan stop) (IsDue files)))
      → AddsCalls a b x y (CarriesOut Plans IsDue (no_plan stop))
  stopped_seen stop a b x y p =
      made_so (Sees (missed_by stop) (λ files. Told (no_plan stop) (IsDue files))) (StopsSo Plans IsDue stop) a b x y
      (stopped_before stop) p

  module _ (plan : Plan) (made : Plans plan) where
    -- what is due of the files that were found is due before they are written
    due_before : (es fs : List Event) → Sees (Some []) (λ files. IsDue files (Ok plan)) es
        → (old new : Files) → Run (es ++ fs) old new → IsDue old (Ok plan)
    due_before es fs p old new run = let parts = run_parts es fs old new run in p.1 old parts.0 parts.1

    wrote_all : (es fs : List Event) → Sees (Some []) (λ files. IsDue files (Ok plan)) es
        → output.Writes (Ok tt) plan.files fs → Writes Plans IsDue plan (es ++ fs)
    wrote_all es fs p q = record {
      made = made;
      did = did_both es fs p.0 q.0;
      due = due_before es fs p;
      put = left_after es fs (λ old new. new ≡ output.put_all old plan.files) p.0.wrote q.1;
    }

    wrote_until : (fault : WriteFault) (es fs : List Event) → Sees (Some []) (λ files. IsDue files (Ok plan)) es
        → output.Writes (Err fault) plan.files fs → StopsSo Plans IsDue (stop_of fault) (es ++ fs)
    wrote_until written.Failed es fs p q = record {
      had_memory = (did_both es fs p.0 q.3).had_memory;
      missed = (did_both es fs p.0 q.3).missed;
      left = inr (record {
        plan = plan;
        number = q.0;
        next = q.1;
        made = made;
        at = record { is_next = q.2.is_next; wrote = written_after es fs p.0.wrote ∙ q.2.wrote };
        due = due_before es fs p;
        left = left_after es fs (output.StopsWithin plan.files q.0 q.1) p.0.wrote q.4;
      });
    }
    wrote_until written.OutOfMemory es fs p q = inr (record {
      plan = plan;
      number = q.0;
      next = q.1;
      made = made;
      at = record { is_next = q.2.is_next; wrote = written_after es fs p.0.wrote ∙ q.2.wrote };
      due = due_before es fs p;
      left = left_after es fs (StopsBefore plan.files q.0 q.1) p.0.wrote q.3;
    })

    pub all_written : (a b c : List Event) (x y z : Option Files)
        → AddsCalls a b x y (Sees (Some []) (λ files. IsDue files (Ok plan)))
        → AddsCalls b c y z (output.Writes (Ok tt) plan.files)
        → AddsCalls a c x z (CarriesOut Plans IsDue (Ok plan))
    all_written a b c x y z p q =
        made_both (Sees (Some []) (λ files. IsDue files (Ok plan))) (output.Writes (Ok tt) plan.files)
        (Writes Plans IsDue plan) a b c x y z wrote_all p q

    pub writing_stopped : (fault : WriteFault) (a b c : List Event) (x y z : Option Files)
        → AddsCalls a b x y (Sees (Some []) (λ files. IsDue files (Ok plan)))
        → AddsCalls b c y z (output.Writes (Err fault) plan.files)
        → AddsCalls a c x z (CarriesOut Plans IsDue (no_plan (stop_of fault)))
    writing_stopped fault a b c x y z p q =
        made_both (Sees (Some []) (λ files. IsDue files (Ok plan))) (output.Writes (Err fault) plan.files)
        (StopsSo Plans IsDue (stop_of fault)) a b c x y z (wrote_until fault) p q

  -- ---- what was said

  -- the files were written
  pub finished : (plan : Plan) (status : ℕ) (x y : Option Files) (f f2 : ℕ) (a b : List Event) (old new : Output)
      → AddsCalls a b x y (Writes Plans IsDue plan) → SaysText plan.text status old new
      → (status ≡ 7 → Rose old.faults new.faults)
      → Ended Plans IsDue status (outside x f a old) (outside y f2 b new)
  finished plan status x y f f2 a b old new left (inl said) rose =
      (done plan, record { answered = said.0; blamed = tt; left = left; said = said.1 })
  finished plan status x y f f2 a b old new left (inr (inl said)) rose =
      (text_failed plan, record { answered = said.0; blamed = rose said.0; left = left; said = said.1 })
  finished plan status x y f f2 a b old new left (inr (inr said)) rose =
      (text_without_memory plan, record { answered = said.0; blamed = tt; left = left; said = said.1 })

  -- where there is no memory for the line of a refusal, the files are as they were all the same
  unsaid : (refusal : Refusal) (x y : Option Files) (a b : List Event)
      → AddsCalls a b x y (StopsSo Plans IsDue (Refused refusal)) → AddsCalls a b x y (StopsSo Plans IsDue OutOfMemory)
  unsaid refusal x y a b left =
      made_so (StopsSo Plans IsDue (Refused refusal)) (StopsSo Plans IsDue OutOfMemory) a b x y
      (λ calls p. inl p.unwritten) left

  -- the command stopped before
  pub ended_before : (stop : Stop) (status : ℕ) (x y : Option Files) (f f2 : ℕ) (a b : List Event) (old new : Output)
      → (IsErrOf (no_plan stop) Device → Rose f f2) → AddsCalls a b x y (StopsSo Plans IsDue stop)
      → Says stop status old new
      → Ended Plans IsDue status (outside x f a old) (outside y f2 b new)
  ended_before (Refused refusal) status x y f f2 a b old new rose left (inl said) =
      (stopped (Refused refusal), record { answered = said.0; blamed = tt; left = left; said = said.1 })
  ended_before (Refused refusal) status x y f f2 a b old new rose left (inr said) = (
    stopped OutOfMemory,
    record { answered = said.0; blamed = tt; left = unsaid refusal x y a b left; said = said.1 },
  )
  ended_before Device status x y f f2 a b old new rose left said =
      (stopped Device, record { answered = said.0; blamed = rose refl; left = left; said = said.1 })
  ended_before OutOfMemory status x y f f2 a b old new rose left said =
      (stopped OutOfMemory, record { answered = said.0; blamed = tt; left = left; said = said.1 })

  -- ---- memory

  -- where the count rose, the answer says so
  lacked : (ending : Ending) (status : ℕ) (a b calls : List Event) → b ≡ a ++ calls
      → LeavesSo Plans IsDue ending calls
      → status ≡ status_of ending → memory_faults a < memory_faults b → status ≡ 10
  lacked (done plan) status a b calls is left answered rose =
      absurd omega (arith, rose, same_count a b calls is left.did.had_memory)
  lacked (text_failed plan) status a b calls is left answered rose =
      absurd omega (arith, rose, same_count a b calls is left.did.had_memory)
  lacked (text_without_memory plan) status a b calls is left answered rose = answered
  lacked (stopped (Refused refusal)) status a b calls is left answered rose =
      absurd omega (arith, rose, same_count a b calls is left.did.had_memory)
  lacked (stopped Device) status a b calls is left answered rose =
      absurd omega (arith, rose, same_count a b calls is left.had_memory)
  lacked (stopped OutOfMemory) status a b calls is left answered rose = answered

  pub answers_memory : (status : ℕ) (before after : Outside) → Ended Plans IsDue status before after
      → memory_faults before.calls < memory_faults after.calls → status ≡ 10
  answers_memory status before after ended rose =
      lacked ended.0 status before.calls after.calls ended.1.left.0 ended.1.left.1 ended.1.left.3 ended.1.answered rose

-- ---- what is due says more

module _ (Plans : Plan → Type 0) (IsDue More : Files → Result Plan Refusal → Type 0)
    (so : (files : Files) (due : Result Plan Refusal) → IsDue files due → More files due) where
  writes_more : (plan : Plan) (calls : List Event) → Writes Plans IsDue plan calls → Writes Plans More plan calls
  writes_more plan calls w = record {
    made = w.made;
    did = w.did;
    due = λ old new run. so old (Ok plan) (w.due old new run);
    put = w.put;
  }

  until_more : (Left : List FileAt → ℕ → FileAt → Files → Files → Type 0) (calls : List Event)
      → WritesUntil Plans IsDue Left calls → WritesUntil Plans More Left calls
  until_more Left calls w = record {
    plan = w.plan;
    number = w.number;
    next = w.next;
    made = w.made;
    at = w.at;
    due = λ old new run. so old (Ok w.plan) (w.due old new run);
    left = w.left;
  }

  some_more : (Left : List FileAt → ℕ → FileAt → Files → Files → Type 0) (calls : List Event)
      → Unwritten calls ⊎ WritesUntil Plans IsDue Left calls → Unwritten calls ⊎ WritesUntil Plans More Left calls
  some_more Left calls (inl none) = inl none
  some_more Left calls (inr some) = inr (until_more Left calls some)

  stops_more : (stop : Stop) (calls : List Event) → StopsSo Plans IsDue stop calls → StopsSo Plans More stop calls
  stops_more (Refused refusal) calls r = record {
    did = r.did;
    due = λ old new run. so old (Err refusal) (r.due old new run);
    unwritten = r.unwritten;
  }
  stops_more Device calls f = record {
    had_memory = f.had_memory;
    missed = f.missed;
    left = some_more output.StopsWithin calls f.left;
  }
  stops_more OutOfMemory calls left = some_more StopsBefore calls left

  leaves_more : (ending : Ending) (calls : List Event) → LeavesSo Plans IsDue ending calls
      → LeavesSo Plans More ending calls
  leaves_more (done plan) calls w = writes_more plan calls w
  leaves_more (stopped stop) calls h = stops_more stop calls h
  leaves_more (text_failed plan) calls w = writes_more plan calls w
  leaves_more (text_without_memory plan) calls w = writes_more plan calls w

  -- a run of which this is due is one of which more is
  pub ended_more : (status : ℕ) (before after : Outside) → Ended Plans IsDue status before after
      → Ended Plans More status before after
  ended_more status before after (ending, ends) = (
    ending,
    record {
      answered = ends.answered;
      blamed = ends.blamed;
      left = made_so (LeavesSo Plans IsDue ending) (LeavesSo Plans More ending) before.calls after.calls before.files
          after.files (leaves_more ending) ends.left;
      said = ends.said;
    },
  )
