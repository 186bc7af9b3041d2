-- What is said of two runs.
use Rattle.std.proofs.Common.{◌≡◌, ◌↔◌, ℕ, Bool, true, false, List, Option, Some, None, Result, Ok, Err, IsTrue, refl, sym}
use Rattle.std.proofs.Common.{subst}
use Rattle.std.specs.Option.{option_map}
use Rattle.class_model.specs.declared.class.Class.{Class}
use Rattle.class_run.specs.Ended.{ended_after}
use Rattle.class_run.specs.declared.ended.Ended.{Ended}
use Rattle.jvm_model.specs.Value.{Key}
use Rattle.mapping_file.specs.declared.mapping.Mapping.{Mapping}
use Rattle.command_frame.specs.Steps.{Makes}
use Rattle.command_frame.specs.declared.command.Plan.{Plan}
use Rattle.command_frame.specs.declared.refusal.Refusal.{Refusal}
use Rattle.command_frame.specs.declared.stop.Stop.{Stop}
use Rattle.command_frame.specs.declared.stop.Stop.TheVariants.{Refused, Device, OutOfMemory}
use Rattle.run_command.specs.declared.entries.Start.{Start}
use Rattle.compare_command.specs.Alike.{IsAlike, IsAnyAlike}
use Rattle.compare_command.specs.Due.{IsCompared, alike, differs, input_ended, output_ended}
use Rattle.compare_command.specs.NewEntry.{new_entry}
use Rattle.compare_command.specs.bodies.Saying.{IsSaid}

module _ (mapping : Mapping) (input output : List Class) (steps : ℕ) (start : Start) where
  -- the output shows what the input shows
  abbrev IsShown : Type 0
  IsShown = IsAnyAlike mapping (input_ended input start steps) (output_ended mapping output start steps)

  due_of : (shown : Bool) → (IsTrue shown ↔ IsShown) → (due : Result Plan Refusal) → IsSaid shown due
      → IsCompared mapping input output steps start due
  due_of true iff due is = alike (iff.0 refl) is
  due_of false iff due is = differs (λ h. let t = iff.1 h in absurd cc) is

  -- what was said by the test is what is due
  pub said_by : (shown : Bool) → (IsTrue shown ↔ IsShown) → (r : Result Plan Stop) → Makes r (IsSaid shown)
      → Makes r (IsCompared mapping input output steps start)
  said_by shown iff (Ok plan) h = due_of shown iff (Ok plan) h
  said_by shown iff (Err (Refused refusal)) h = (h.0, due_of shown iff (Err refusal) h.1)
  said_by shown iff (Err Device) h = absurd h
  said_by shown iff (Err OutOfMemory) h = tt

  -- ---- what the output shows

  -- without an entry it shows nothing
  pub shows_nothing : None ≡ new_entry mapping output start.entry → IsTrue false ↔ IsShown
  shows_nothing none = (
    (λ t. absurd cc),
    (λ shown. absurd (subst (λ (o : Option Key). IsAnyAlike mapping (input_ended input start steps)
        (option_map (λ k. ended_after output k start.args steps) o)) (sym none) shown)),
  )

  -- from its entry it shows what the run of that does
  pub shows : (key : Key) → Some key ≡ new_entry mapping output start.entry → (old new : Ended)
      → old ≡ input_ended input start steps → new ≡ ended_after output key start.args steps → (shown : Bool)
      → (IsTrue shown ↔ IsAlike mapping old new) → IsTrue shown ↔ IsShown
  shows key is old new old_is new_is shown iff =
      subst (λ (o : Option Key). IsTrue shown ↔ IsAnyAlike mapping (input_ended input start steps)
      (option_map (λ k. ended_after output k start.args steps) o)) is
      (subst (λ (e : Ended). IsTrue shown ↔ IsAlike mapping (input_ended input start steps) e) new_is
      (subst (λ (e : Ended). IsTrue shown ↔ IsAlike mapping e new) old_is iff))
