-- A frame that runs by the code of its method, and how far a run has come (only the proof of the bodies needs it).
use Rattle.std.specs.Prelude.{◌≡◌, Bool, true, false, ℕ}
use Rattle.jvm_model.specs.Program.{View}
use Rattle.jvm_model.specs.State.{Control as Doing}
use Rattle.jvm_model.specs.State as machine
use Rattle.jvm_model.specs.Step.{run}
use Rattle.jvm_model.specs.Value.{Key}
use Rattle.run_machine.specs.States.{state_at}
use Rattle.run_machine.specs.declared.going.Going.{Going}
use Rattle.run_machine.specs.declared.going.Going.TheVariants as going
use Rattle.run_machine.specs.declared.going.Ran.{Ran}
use Rattle.run_machine.specs.declared.state.Control.{Control}
use Rattle.run_machine.specs.declared.state.Control.TheVariants as control
use Rattle.run_machine.specs.declared.state.Rest.{Rest}

-- what is done then
abbrev pub going_to : Going → Control
going_to (going.On f) = control.Runs f
going_to (going.To c) = c

-- a frame that goes on is one of this method
abbrev pub KeepsMethod : Key → Going → Type 0
KeepsMethod m (going.On f) = f.method ≡ m
KeepsMethod m (going.To c) = Unit {0}

-- a frame runs
abbrev pub is_frame : Doing → Bool
is_frame (machine.Runs f) = true
is_frame _ = false

-- the run goes on from here with the steps that are left as it did with all of them from there
abbrev pub Leads : View → (before : Rest) → Control → (steps : ℕ) → (after : Rest) → Ran → Type 0
Leads v before c steps after r =
    run v (state_at v.shape after r.control) r.left ≡ run v (state_at v.shape before c) steps
