-- One step (JVMS 2.11, 6.5), and runs.
use Rattle.std.specs.Prelude.{ℕ, zero, suc, List, [], ◌∷◌, Option, Some, None, codes, if◌then◌else◌}
use Rattle.class_model.specs.declared.code.Code.{Code}
use Rattle.jvm_model.specs.Answers.{Answer, Gives, Raises, Begins, Awaits, NoAnswer}
use Rattle.jvm_model.specs.Exceptions.{NullPointer}
use Rattle.jvm_model.specs.Fields.{blank}
use Rattle.jvm_model.specs.Heap.{Fresh, Init, Instance, Object, Ready, World}
use Rattle.jvm_model.specs.Initialisation.{begin, complete, frame, prepare, raised, state}
use Rattle.jvm_model.specs.Local.{Local, Moves, Wants, Ends, Tosses, Stuck, called_with, local, resumed, with_stack}
use Rattle.jvm_model.specs.Program.{Shape, View}
use Rattle.jvm_model.specs.Requests.{answer}
use Rattle.jvm_model.specs.State.{AfterCall, AfterClinit, AfterInit, Body, Completes, Control, Frame, Initialises}
use Rattle.jvm_model.specs.State.{Prepares}
use Rattle.jvm_model.specs.State.{Returned, Runs, State, ToEntry, Unwinds, Wait, Wrong}
use Rattle.jvm_model.specs.Unwinding.{unwind}
use Rattle.jvm_model.specs.Value.{Key, Null, Ref, Value, set_key}

-- the frame that asked goes on, waits, or is left; `b` is its body as it stood, `asking` as it waits for the answer
abbrev pub on_answer : Shape → World → Key → Body → Body → List Wait → Answer → State
on_answer p w m b asking ws (Gives result after) = state after (Runs (frame m (resumed asking result))) ws
on_answer p w m b asking ws (Raises exception) = raised w exception (AfterCall (frame m asking) ∷ ws)
on_answer p w m b asking ws (Begins method args) =
    state w (Runs (frame method (called_with args))) (AfterCall (frame m asking) ∷ ws)
on_answer p w m b asking ws (Awaits class) = begin p w class (AfterInit (frame m b) ∷ ws)
on_answer p w m b asking ws NoAnswer = state w Wrong ws

-- a method returns to the one that called it, or ends an initialisation, or the run (JVMS 2.6.4, 5.5, step 10)
abbrev pub return : World → Option Value → List Wait → State
return w result [] = state w (Returned result) []
return w result (AfterCall f ∷ ws) = state w (Runs (frame f.method (resumed f.body result))) ws
return w result (AfterClinit class ∷ ws) = state w (Completes class) ws
return w result ws = state w Wrong ws

-- an object is thrown, and the frame stands at its instruction (JVMS 6.5.athrow)
abbrev pub toss : World → Frame → Value → List Wait → State
toss w f (Ref n) ws = state w (Unwinds n) (AfterInit f ∷ ws)
toss w f Null ws = raised w NullPointer (AfterInit f ∷ ws)
toss w f _ ws = state w Wrong ws

-- what comes of what a frame does at its instruction
abbrev pub on_local : Shape → World → Key → Body → List Wait → Local → State
on_local p w m b ws (Moves after) = state w (Runs (frame m after)) ws
on_local p w m b ws (Wants r s) = on_answer p w m b (with_stack b s) ws (answer p m.class w r)
on_local p w m b ws (Ends result) = return w result ws
on_local p w m b ws (Tosses v) = toss w (frame m b) v ws
on_local p w m b ws Stuck = state w Wrong ws

-- a frame does its instruction, by the code of its method
abbrev pub run_frame : Shape → World → Key → Body → List Wait → Option Code → State
run_frame p w m b ws None = state w Wrong ws
run_frame p w m b ws (Some code) = on_local p w m b ws (local code b)

-- what is done next
abbrev pub next : View → World → List Wait → Control → State
next v w ws (Runs f) = run_frame v.shape w f.method f.body ws (v.code f.method)
next v w ws (Unwinds n) = unwind v w n ws
next v w ws (Initialises class) = begin v.shape w class ws
next v w ws (Prepares class firsts) = prepare v.shape w class firsts ws
next v w ws (Completes class) = complete w class ws
next v w ws c = state w c ws

-- One instruction with the call of a library method that it makes, one return, one move of an initialisation, or one
-- move of an object that is thrown. A run that has ended stays as it is. (JVMS 2.11 has the loop over instructions;
-- what counts as a step is the project's own.)
abbrev pub step : View → State → State
step v s = next v s.world s.waits s.control

-- the state after so many steps
abbrev pub run : View → State → ℕ → State
run v s zero = s
run v s (suc n) = step v (run v s n)

-- ---- the beginning

-- the field `System.out`
abbrev pub out : Key
out = record { class = codes "java/lang/System"; name = codes "out"; descriptor = codes "Ljava/io/PrintStream;" }

-- object 0
abbrev pub stream : Object
stream = Instance (codes "java/io/PrintStream") blank Null Null

-- the classes of the library are initialised
abbrev pub first_init : Shape → List ℕ → Init
first_init p class = if p.is_library class then Ready else Fresh

-- The heap has the stream and then these objects, fields have their default values, no class of the program is
-- initialised, and nothing is printed.
abbrev pub first_world : Shape → List Object → World
first_world p heap =
    record {
      heap = stream ∷ heap;
      statics = set_key blank out (Ref 0);
      inits = first_init p;
      printed = [];
    }

-- the state that begins with the initialisation of the entry's class; then the entry has its frame
abbrev pub start : View → Key → List Object → List Value → State
start v entry heap args =
    state (first_world v.shape heap) (Initialises entry.class) (ToEntry entry args ∷ [])
