-- What the machine holds between two steps (JVMS 2.5, 2.6).
use Rattle.std.specs.Prelude.{ℕ, List, [], ◌∷◌, Option, Some, None}
use Rattle.jvm_model.specs.Heap.{World}
use Rattle.jvm_model.specs.Value.{Key, Value}

-- A frame without its method: the index of its instruction, its local variables, and its operand stack, the top first
-- (JVMS 2.6). There is no bound on slots or depth. A long has its first slot and two words of the stack.
pub record Body : Type 0 where
  pub at : ℕ
  pub locals : ℕ → Option Value
  pub stack : List Value

-- a frame with its method
pub record Frame : Type 0 where
  pub method : Key
  pub body : Body

-- What waits below the present activity: a frame for the return of the method that it called, at the instruction that
-- called it; a frame at an instruction that a class has to be initialised for, and that is done afterwards; a class
-- whose initialisation has begun for one that comes first, with those that come then; a class for its initialisation
-- method; and the entry for its class. So does the frame at whose instruction an object is thrown, while it goes up: as
-- after a call where an exception arose there, and as one that is done afterwards where the instruction is athrow.
pub data Wait : Type 0 where
  AfterCall : Frame → Wait
  AfterInit : Frame → Wait
  AfterFirst : (class : List ℕ) → (firsts : List (List ℕ)) → Wait
  AfterClinit : (class : List ℕ) → Wait
  ToEntry : Key → List Value → Wait

-- The present activity: a frame runs; an object is thrown; a class is to be initialised; a class whose initialisation
-- has begun and before which those of a list are to be initialised; a class whose initialisation has come to its end.
-- In the last three nothing happens any more: the entry has returned, has thrown an object, or an operand was missing
-- or of another kind.
pub data Control : Type 0 where
  Runs : Frame → Control
  Unwinds : ℕ → Control
  Initialises : (class : List ℕ) → Control
  Prepares : (class : List ℕ) → (firsts : List (List ℕ)) → Control
  Completes : (class : List ℕ) → Control
  Returned : Option Value → Control
  Threw : ℕ → Control
  Wrong : Control

-- all of it
pub record State : Type 0 where
  pub world : World
  pub control : Control
  pub waits : List Wait

-- What a run has come to.
pub data Status : Type 0 where
  Running : Status
  HasReturned : Option Value → Status
  HasThrown : ℕ → Status
  WentWrong : Status

-- by what is being done
abbrev pub status_of : Control → Status
status_of (Returned value) = HasReturned value
status_of (Threw n) = HasThrown n
status_of Wrong = WentWrong
status_of _ = Running

-- of a state
abbrev pub status : State → Status
status s = status_of s.control

-- the object that is going up, while one is (JVMS 2.10)
abbrev pub in_flight : Control → Option ℕ
in_flight (Unwinds n) = Some n
in_flight _ = None

-- the frames that wait
abbrev pub waiting_frames : List Wait → List Frame
waiting_frames [] = []
waiting_frames (AfterCall f ∷ ws) = f ∷ waiting_frames ws
waiting_frames (AfterInit f ∷ ws) = f ∷ waiting_frames ws
waiting_frames (AfterFirst class firsts ∷ ws) = waiting_frames ws
waiting_frames (AfterClinit class ∷ ws) = waiting_frames ws
waiting_frames (ToEntry method args ∷ ws) = waiting_frames ws

-- the frame that runs, before those that wait
abbrev pub frames_with : Control → List Frame → List Frame
frames_with (Runs f) fs = f ∷ fs
frames_with _ fs = fs

-- all frames, the present one first (JVMS 2.5.2)
abbrev pub frames : State → List Frame
frames s = frames_with s.control (waiting_frames s.waits)
