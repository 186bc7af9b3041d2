-- Which states of the machine fit a set whose methods are typed.
use Rattle.std.specs.Prelude.{List, [], ◌∷◌, Option}
use Rattle.class_model.specs.declared.class.Class.{Class}
use Rattle.class_model.specs.declared.frame.VType.{VType}
use Rattle.jvm_model.specs.Heap.{Object}
use Rattle.jvm_model.specs.State.{Wait, AfterCall, AfterInit, AfterFirst, AfterClinit, ToEntry}
use Rattle.jvm_model.specs.State.{Control, Runs, Unwinds, Initialises, Prepares, Completes, Returned, Threw, Wrong}
use Rattle.jvm_model.specs.State.{State}
use Rattle.fit_laws.specs.Frames.{Awaits, Begins, FitsFrame, Stands, result_of}
use Rattle.fit_laws.specs.Values.{FitsWorld, IsThrown}

-- What the uppermost of those that wait is about to get: the result of a method, of this type or none; that a class is
-- initialised; or an object that is thrown (the project's own: the machine tells what waits by what it waits for).
pub data Due : Type 0 where
  AResult : Option VType → Due
  Done : Due
  AThrow : Due

-- Those that wait can take what is due, and each what the one above it gives then. A frame gets the result that it
-- waits for, or goes on when its class is initialised, or its handlers look at its locals; the entry begins when its
-- class is initialised; below the method of a class is what waits for that class. A result that comes to a class is
-- dropped. At the bottom a result ends the run, and so does what is thrown (JVMS 2.6.4, 2.10, 5.5).
abbrev pub FitsWaits : List Class → List Object → Due → List Wait → Type 0
FitsWaits classes heap (AResult given) [] = Unit {0}
FitsWaits classes heap (AResult given) (AfterCall f ∷ ws) =
    (a : Awaits classes heap given f) × FitsWaits classes heap (AResult (result_of a.stands.env)) ws
FitsWaits classes heap (AResult given) (AfterClinit class ∷ ws) = FitsWaits classes heap Done ws
FitsWaits classes heap (AResult given) (AfterInit f ∷ ws) = ⊥
FitsWaits classes heap (AResult given) (AfterFirst class firsts ∷ ws) = ⊥
FitsWaits classes heap (AResult given) (ToEntry k args ∷ ws) = ⊥
FitsWaits classes heap Done [] = ⊥
FitsWaits classes heap Done (AfterCall f ∷ ws) = ⊥
FitsWaits classes heap Done (AfterClinit class ∷ ws) = ⊥
FitsWaits classes heap Done (AfterInit f ∷ ws) =
    (a : FitsFrame classes heap f) × FitsWaits classes heap (AResult (result_of a.stands.env)) ws
FitsWaits classes heap Done (AfterFirst class firsts ∷ ws) = FitsWaits classes heap Done ws
FitsWaits classes heap Done (ToEntry k args ∷ ws) =
    (given : Option VType) × Begins classes heap given k args × FitsWaits classes heap (AResult given) ws
FitsWaits classes heap AThrow [] = Unit {0}
FitsWaits classes heap AThrow (AfterCall f ∷ ws) =
    (a : Stands classes heap f) × FitsWaits classes heap (AResult (result_of a.env)) ws
FitsWaits classes heap AThrow (AfterInit f ∷ ws) =
    (a : Stands classes heap f) × FitsWaits classes heap (AResult (result_of a.env)) ws
FitsWaits classes heap AThrow (AfterClinit class ∷ ws) = FitsWaits classes heap Done ws
FitsWaits classes heap AThrow (AfterFirst class firsts ∷ ws) = FitsWaits classes heap Done ws
FitsWaits classes heap AThrow (ToEntry k args ∷ ws) = Unit {0}

-- What is done fits, and what waits for it: the machine has one datum for it. A frame that runs fits; what goes up is
-- an exception; a class that is initialised has what waits for it; a run has not gone wrong (JVMS 2.6, 2.10, 5.5).
abbrev pub FitsControl : List Class → List Object → Control → List Wait → Type 0
FitsControl classes heap (Runs f) ws =
    (a : FitsFrame classes heap f) × FitsWaits classes heap (AResult (result_of a.stands.env)) ws
FitsControl classes heap (Unwinds n) ws = IsThrown classes heap n × FitsWaits classes heap AThrow ws
FitsControl classes heap (Initialises class) ws = FitsWaits classes heap Done ws
FitsControl classes heap (Prepares class firsts) ws = FitsWaits classes heap Done ws
FitsControl classes heap (Completes class) ws = FitsWaits classes heap Done ws
FitsControl classes heap (Returned result) ws = Unit {0}
FitsControl classes heap (Threw n) ws = Unit {0}
FitsControl classes heap Wrong ws = ⊥

-- a state fits a set (JVMS 2.5, 2.6)
pub record Fits (classes : List Class) (s : State) : Type 0 where
  -- the heap and the static fields
  pub world : FitsWorld classes s.world
  -- what is done, and what waits for it
  pub control : FitsControl classes s.world.heap s.control s.waits
