-- The state of the code as that of the machine (JVMS 2.5, 2.6).
use Rattle.std.specs.Prelude.{List, Option, map}
use Rattle.std.specs.Prelude.{option_copied}
use Rattle.jvm_model.specs.Heap.{World as Whole}
use Rattle.jvm_model.specs.Initialisation.{state}
use Rattle.jvm_model.specs.Program.{Shape, View}
use Rattle.jvm_model.specs.State.{Control as Doing, Frame as Framed, State as Seen, Status as Come, Wait as Waiting}
use Rattle.jvm_model.specs.State as machine
use Rattle.class_model.specs.declared.code.Code.{Code}
use Rattle.jvm_model.specs.Value.{Key}
use Rattle.run_heap.specs.Worlds.{world_of}
use Rattle.run_machine.specs.Inits.{init_at}
use Rattle.run_machine.specs.declared.state.Control.{Control}
use Rattle.run_machine.specs.declared.state.Control.TheVariants as control
use Rattle.run_machine.specs.declared.state.Frame.{Frame}
use Rattle.run_machine.specs.declared.state.Rest.{Rest}
use Rattle.run_machine.specs.declared.state.State.{State}
use Rattle.run_machine.specs.declared.state.Status.{Status}
use Rattle.run_machine.specs.declared.state.Status.TheVariants as status
use Rattle.run_machine.specs.declared.state.Wait.{Wait}
use Rattle.run_machine.specs.declared.state.Wait.TheVariants as wait
use Rattle.run_steps.specs.Frames.{body_of}

-- a frame
abbrev pub frame_of : Frame → Framed
frame_of f = record { method = f.method; body = body_of f.body }

-- what waits
abbrev pub wait_of : Wait → Waiting
wait_of (wait.AfterCall f) = machine.AfterCall (frame_of f)
wait_of (wait.AfterInit f) = machine.AfterInit (frame_of f)
wait_of (wait.AfterFirst class firsts) = machine.AfterFirst class firsts
wait_of (wait.AfterClinit class) = machine.AfterClinit class
wait_of (wait.ToEntry method args) = machine.ToEntry method args

-- all that waits
abbrev pub waits_of : List Wait → List Waiting
waits_of ws = map wait_of ws

-- what is done
abbrev pub control_of : Control → Doing
control_of (control.Runs f) = machine.Runs (frame_of f)
control_of (control.Unwinds n) = machine.Unwinds n
control_of (control.Initialises class) = machine.Initialises class
control_of (control.Prepares class firsts) = machine.Prepares class firsts
control_of (control.Completes class) = machine.Completes class
control_of (control.Returned v) = machine.Returned v
control_of (control.Threw n) = machine.Threw n
control_of control.Wrong = machine.Wrong

-- the world; the program says which classes are initialised before it begins
abbrev pub whole : Shape → Rest → Whole
whole p r = world_of (init_at p r.marks) r.world

-- the state with this being done
abbrev pub state_at : Shape → Rest → Control → Seen
state_at p r c = state (whole p r) (control_of c) (waits_of r.waits)

-- the state
abbrev pub state_of : Shape → State → Seen
state_of p s = state_at p s.rest s.control

-- what the run has come to
abbrev pub status_of : Status → Come
status_of status.Running = machine.Running
status_of (status.Returned v) = machine.HasReturned (option_copied v)
status_of (status.Threw n) = machine.HasThrown n
status_of status.Wrong = machine.WentWrong

-- a program by what names mean in it and its codes
abbrev pub program : Shape → (Key → Option Code) → View
program p codes = record { shape = p; code = codes }
