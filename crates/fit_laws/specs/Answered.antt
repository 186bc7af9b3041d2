-- What a frame does at its instruction, and what it is answered, fits what its rule gives (JVMS 4.10.1.9, 6.5).
use Rattle.std.specs.Prelude.{◌≡◌, ◌≢◌, ◌+◌, ℕ, List, Option, Some, None, slice_get}
use Rattle.class_model.specs.declared.class.Class.{Class}
use Rattle.class_model.specs.declared.frame.VType.{VType}
use Rattle.jvm_model.specs.Answers.{Answer, Gives, Raises, Begins as Calls, Awaits as Waits, NoAnswer}
use Rattle.jvm_model.specs.Heap.{Object, World}
use Rattle.jvm_model.specs.Local.{Local, Moves, Wants, Ends, Tosses, Stuck, with_stack}
use Rattle.jvm_model.specs.Requests.{answer}
use Rattle.jvm_model.specs.State.{Body}
use Rattle.jvm_model.specs.Value.{Key, Value, Lit}
use Rattle.set_view.specs.ViewOf.{shape_of}
use Rattle.type_verifier.specs.declared.frame.TypeFrame.{TypeFrame}
use Rattle.type_verifier.specs.Effects.{gives}
use Rattle.type_verifier.specs.Environment.{Environment}
use Rattle.fit_laws.specs.Frames.{Begins, FitsBody, Leads, result_of}
use Rattle.fit_laws.specs.Growth.{Grows}
use Rattle.fit_laws.specs.Values.{FitsKnown, FitsReference, FitsValue, FitsWorld, throwable}

-- a value of this type is given, or none (JVMS 4.10.1.9)
abbrev pub FitsResult : Environment → List Object → Option VType → Option Value → Type 0
FitsResult env heap None None = Unit {0}
FitsResult env heap (Some ty) (Some v) = FitsValue env heap ty v
FitsResult env heap _ _ = ⊥

-- the same of what a method returns, whoever called it (JVMS 2.6.4)
abbrev pub FitsReturned : List Class → List Object → Option VType → Option Value → Type 0
FitsReturned classes heap None None = Unit {0}
FitsReturned classes heap (Some ty) (Some v) = FitsKnown classes heap ty v
FitsReturned classes heap _ _ = ⊥

-- An answer fits: a result is given in a world that fits, in which no object is gone; or a method begins that gives
-- such
-- a result; or an exception is thrown, or a class initialised first, of which nothing more is owed. There is an answer
-- (JVMS 6.5).
abbrev pub FitsAnswer : List Class → Environment → World → Option VType → Answer → Type 0
FitsAnswer classes env w given (Gives result after) =
    Grows w.heap after.heap × FitsWorld classes after × FitsResult env after.heap given result
FitsAnswer classes env w given (Raises exception) = Unit {0}
FitsAnswer classes env w given (Calls k args) = Begins classes w.heap given k args
FitsAnswer classes env w given (Waits class) = Unit {0}
FitsAnswer classes env w given NoAnswer = ⊥

-- what may be thrown: an exception, or null; a literal is none (JVMS 6.5.athrow)
pub record IsTossed (classes : List Class) (heap : List Object) (v : Value) : Type 0 where
  pub fits : FitsReference classes heap throwable v
  pub no_text : (units : List ℕ) → v ≢ Lit units

-- What a frame does fits: it goes on where its body fits the frame of the list; or it asks, waits as a frame that a
-- result of some type lets go on, and is answered with such a result; or its method returns what it should; or an
-- exception is thrown. No operand is missing (JVMS 4.10.1.6, 4.10.1.9).
module _ (classes : List Class) (w : World) (k : Key) (env : Environment) (frames : List TypeFrame) (b : Body) where
  abbrev pub FitsLocal : Local → Type 0
  FitsLocal (Moves after) =
      (here : TypeFrame) × (slice_get frames after.at ≡ Some here) × FitsBody env w.heap here after
  FitsLocal (Wants r s) = (given : Option VType) × (rest : TypeFrame) × FitsBody env w.heap rest (with_stack b s)
      × Leads classes frames (b.at + 1) (gives given rest)
      × FitsAnswer classes env w given (answer (shape_of classes) k.class w r)
  FitsLocal (Ends result) = FitsReturned classes w.heap (result_of env) result
  FitsLocal (Tosses v) = IsTossed classes w.heap v
  FitsLocal Stuck = ⊥
