-- The receiver of a call, and what the call runs (JVMS 6.5.invokespecial, 6.5.invokevirtual, 6.5.invokeinterface; only
-- the proof of the bodies needs it).
use Rattle.std.specs.Prelude.{◌≡◌, ℕ, List, ◌∷◌, Option}
use Rattle.jvm_model.specs.Answers.{Answer, NoAnswer, Raises, of_some}
use Rattle.jvm_model.specs.Calls.{called, on_receiver}
use Rattle.jvm_model.specs.Exceptions.{NullPointer}
use Rattle.jvm_model.specs.Heap.{Init, Object as Thing, Str, World as Whole}
use Rattle.jvm_model.specs.Program.{Target as Run}
use Rattle.jvm_model.specs.Value.{Value}
use Rattle.run_heap.specs.Targets.{target_of}
use Rattle.run_heap.specs.Worlds.{object_of, world_of}
use Rattle.run_heap.specs.declared.calls.Choice.{Choice}
use Rattle.run_heap.specs.declared.calls.Choice.TheVariants as choice
use Rattle.run_heap.specs.declared.calls.Receiver.{Receiver}
use Rattle.run_heap.specs.declared.calls.Receiver.TheVariants as receiver
use Rattle.run_heap.specs.declared.world.World.{World}

-- whatever runs on which object, the call is answered so
abbrev pub IsOn : World → List Value → (Whole → (Thing → Option Run) → Answer) → Type 0
IsOn w vs due = (inits : List ℕ → Init) (f : Thing → Option Run)
    → on_receiver (world_of inits w) vs f ≡ due (world_of inits w) f

-- it is the receiver among the operands
abbrev pub IsReceiver : Receiver → World → List Value → Type 0
IsReceiver receiver.Null w vs = IsOn w vs (λ x f. Raises NullPointer)
IsReceiver (receiver.Object o) w vs = IsOn w vs (λ x f. of_some (called x vs) (f (object_of o.now)))
IsReceiver receiver.Text w vs = (units : List ℕ) × IsOn w vs (λ x f. of_some (called x vs) (f (Str units)))
IsReceiver receiver.Missing w vs = IsOn w vs (λ x f. NoAnswer)

-- it is the receiver where this is the first operand
abbrev pub IsReceiverOf : Receiver → World → Value → Type 0
IsReceiverOf r w v = (vs : List Value) → IsReceiver r w (v ∷ vs)

-- what the call is answered
abbrev pub choice_answer : Choice → Whole → List Value → Answer
choice_answer (choice.Runs t) w vs = called w vs (target_of t)
choice_answer choice.Null w vs = Raises NullPointer
choice_answer choice.Nothing w vs = NoAnswer

-- it is answered what a call is answered that runs this on an object
abbrev pub IsChoice : Choice → World → List Value → (Thing → Option Run) → Type 0
IsChoice c w vs f = (inits : List ℕ → Init) → choice_answer c (world_of inits w) vs
    ≡ on_receiver (world_of inits w) vs f
