-- Initialising a class or an interface (JVMS 5.5). Its moves are: it begins, and the fields with a ConstantValue get
-- it; it goes on to the next class that has to be initialised first; its initialisation method begins; it ends. Each is
-- a step.
use Rattle.std.specs.Prelude.{Bool, true, false, ℕ, List, [], ◌∷◌, length, Option, Some, None, if◌then◌else◌}
use Rattle.std.specs.Option.{option_map_or}
use Rattle.jv_base.specs.Names.{is_text}
use Rattle.jvm_model.specs.Exceptions.{Exception, NoClassDef, exception_class}
use Rattle.jvm_model.specs.Fields.{fresh, stored_in}
use Rattle.jvm_model.specs.Heap.{Init, Fresh, Begun, Ready, Failed, World, with_new}
use Rattle.jvm_model.specs.Local.{called_with}
use Rattle.jvm_model.specs.Program.{Shape}
use Rattle.jvm_model.specs.State.{AfterClinit, AfterFirst, AfterInit, Body, Control, Frame, Initialises, Prepares, Runs}
use Rattle.jvm_model.specs.State.{State, ToEntry, Unwinds, Wait, Wrong}
use Rattle.jvm_model.specs.Value.{Key, Value, set_class}

-- a state by its parts
abbrev pub state : World → Control → List Wait → State
state w c ws = record { world = w; control = c; waits = ws }

-- a frame by its parts
abbrev pub frame : Key → Body → Frame
frame method body = record { method = method; body = body }

-- an exception is made and thrown
abbrev pub raised : World → Exception → List Wait → State
raised w exception ws = state (with_new w (fresh (exception_class exception))) (Unwinds (length w.heap)) ws

-- an initialisation that has ended, or wasn't needed: what waits for it goes on (JVMS 5.5, steps 3, 4 and 10)
abbrev pub goes_back : World → List Wait → State
goes_back w (AfterInit f ∷ ws) = state w (Runs f) ws
goes_back w (AfterFirst class firsts ∷ ws) = state w (Prepares class firsts) ws
goes_back w (ToEntry method args ∷ ws) = state w (Runs (frame method (called_with args))) ws
goes_back w ws = state w Wrong ws

-- how far the initialisation of the class is now
abbrev pub marked : World → List ℕ → Init → World
marked w class i = record w { inits = set_class w.inits class i }

-- the fields of the class that have one hold their ConstantValue (JVMS 4.7.2; 5.5, step 6, speaks of final ones alone)
abbrev pub with_constants : Shape → List ℕ → (Key → Value) → Key → Value
with_constants p class statics k =
    if is_text k.class class then option_map_or (stored_in k) (p.constant k) (statics k) else statics k

-- it begins (JVMS 5.5, steps 1 to 6); of a class that failed no use is made any more
abbrev pub begin_by : Shape → World → List ℕ → List Wait → Init → State
begin_by p w class ws Fresh =
    state (record (marked w class Begun) { statics = with_constants p class w.statics })
    (Prepares class (p.firsts class))
    ws
begin_by p w class ws Begun = goes_back w ws
begin_by p w class ws Ready = goes_back w ws
begin_by p w class ws Failed = raised w NoClassDef ws

-- by how far it is
abbrev pub begin : Shape → World → List ℕ → List Wait → State
begin p w class ws = begin_by p w class ws (w.inits class)

-- it ends (JVMS 5.5, step 10)
abbrev pub complete : World → List ℕ → List Wait → State
complete w class ws = goes_back (marked w class Ready) ws

-- its initialisation method begins; where it has none, it ends (JVMS 5.5, step 9)
abbrev pub run_clinit : World → List ℕ → List Wait → Option Key → State
run_clinit w class ws None = complete w class ws
run_clinit w class ws (Some method) = state w (Runs (frame method (called_with []))) (AfterClinit class ∷ ws)

-- the class still has to be initialised
abbrev pub is_due : Init → Bool
is_due Fresh = true
is_due Begun = false
is_due Ready = false
is_due Failed = true

-- the next class that has to be initialised first, and after it the others; where there is none, its initialisation
-- method (JVMS 5.5, steps 7 and 9)
abbrev pub prepare : Shape → World → List ℕ → List (List ℕ) → List Wait → State
prepare p w class [] ws = run_clinit w class ws (p.clinit class)
prepare p w class (first ∷ firsts) ws =
    if is_due (w.inits first) then state w (Initialises first) (AfterFirst class firsts ∷ ws)
    else prepare p w class firsts ws
