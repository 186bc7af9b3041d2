-- An object that is thrown goes up, one frame or class a step (JVMS 2.10, 5.5, 6.5.athrow).
use Rattle.std.specs.Prelude.{Bool, true, false, ℕ, List, [], ◌∷◌, length, codes, Option, Some, None, slice_get}
use Rattle.std.specs.Option.{option_map_or}
use Rattle.class_model.specs.declared.code.Code.{Code}
use Rattle.jvm_model.specs.Exceptions.{InInitializer, exception_class}
use Rattle.jvm_model.specs.Fields.{blank}
use Rattle.jvm_model.specs.Heap.{Failed, Instance, Object, World, class_of, with_new}
use Rattle.jvm_model.specs.Initialisation.{frame, marked, state}
use Rattle.jvm_model.specs.Local.{at_handler, handler_for}
use Rattle.jvm_model.specs.Program.{Shape, View}
use Rattle.jvm_model.specs.State.{AfterCall, AfterClinit, AfterFirst, AfterInit, Frame, Runs, State, Threw, ToEntry}
use Rattle.jvm_model.specs.State.{Unwinds, Wait, Wrong}
use Rattle.jvm_model.specs.Value.{Null, Ref}

-- the object is of a class or one below it
abbrev pub is_of_class : Shape → Option Object → List ℕ → Bool
is_of_class p o class = option_map_or (λ x. p.is_sub (class_of x) class) o false

-- it enters the handler, or leaves the frame (JVMS 2.10)
abbrev pub enter : World → ℕ → Frame → List Wait → Option ℕ → State
enter w n f ws (Some entry) = state w (Runs (frame f.method (at_handler f.body entry n))) ws
enter w n f ws None = state w (Unwinds n) ws

-- by the handlers of the method
abbrev pub unwind_frame : Shape → World → ℕ → Frame → List Wait → Option Code → State
unwind_frame p w n f ws None = state w Wrong ws
unwind_frame p w n f ws (Some code) =
    enter w n f ws (handler_for (is_of_class p (slice_get w.heap n)) f.body.at code.handlers)

-- what is thrown in place of an object that an initialisation method throws: the object itself where it is an Error,
-- else an ExceptionInInitializerError whose cause it is (JVMS 5.5, step 11)
abbrev pub unwind_clinit : World → ℕ → List Wait → (is_error : Bool) → State
unwind_clinit w n ws true = state w (Unwinds n) ws
unwind_clinit w n ws false =
    state (with_new w (Instance (exception_class InInitializer) blank Null (Ref n))) (Unwinds (length w.heap)) ws

-- The object leaves what waits: a frame, which may catch it; a class whose superclass fails, which fails with it; a
-- class whose initialisation method fails (JVMS 2.10; 5.5, steps 7, 11 and 12); or the entry, and so the run.
abbrev pub unwind : View → World → ℕ → List Wait → State
unwind v w n [] = state w (Threw n) []
unwind v w n (AfterCall f ∷ ws) = unwind_frame v.shape w n f ws (v.code f.method)
unwind v w n (AfterInit f ∷ ws) = unwind_frame v.shape w n f ws (v.code f.method)
unwind v w n (AfterFirst class firsts ∷ ws) = state (marked w class Failed) (Unwinds n) ws
unwind v w n (AfterClinit class ∷ ws) =
    unwind_clinit (marked w class Failed) n ws (is_of_class v.shape (slice_get w.heap n) (codes "java/lang/Error"))
unwind v w n (ToEntry method args ∷ ws) = state w (Threw n) []
