-- What functions promise of the state that comes, as words for proofs.
use Rattle.std.proofs.Common.{◌≡◌, ◌∷◌, ℕ, List, refl}
use Rattle.jvm_model.specs.Answers.{Answer as Due}
use Rattle.jvm_model.specs.Exceptions.{Exception}
use Rattle.jvm_model.specs.Heap.{Init, World as Whole}
use Rattle.jvm_model.specs.Initialisation.{begin, raised, state}
use Rattle.jvm_model.specs.Program.{Shape}
use Rattle.jvm_model.specs.State.{AfterInit, Body as Standing, Wait as Waiting}
use Rattle.jvm_model.specs.Step.{on_answer}
use Rattle.run_heap.specs.Answers.{Answered, Changes, Keeps}
use Rattle.run_heap.specs.Worlds.{world_of}
use Rattle.run_heap.specs.declared.answer.Answer.{Answer}
use Rattle.run_heap.specs.declared.answer.Answer.TheVariants as answer
use Rattle.run_heap.specs.declared.world.World.{World}
use Rattle.run_machine.specs.States.{control_of, frame_of, state_at, waits_of, whole}
use Rattle.run_machine.specs.declared.state.Control.{Control}
use Rattle.run_machine.specs.declared.state.Frame.{Frame}
use Rattle.run_machine.specs.declared.state.Rest.{Rest}
use Rattle.run_steps.specs.Frames.{body_of}

-- an exception was raised
abbrev pub Raised : (before after : World) → Exception → Control → Type 0
Raised before after e k = (inits : List ℕ → Init) (ws : List Waiting)
    → state (world_of inits after) (control_of k) ws ≡ raised (world_of inits before) e ws

-- a frame was answered
abbrev pub Answers : (before after : Rest) → Frame → (Shape → Whole → Due) → Control → Type 0
Answers before after f due k = (p : Shape) (b : Standing) → state_at p after k
    ≡ on_answer p (whole p before) f.method b (body_of f.body) (waits_of before.waits) (due p (whole p before))

-- an initialisation began
abbrev pub Begins : Shape → (before after : Rest) → (class : List ℕ) → Control → Type 0
Begins p before after class k = state_at p after k ≡ begin p (whole p before) class (waits_of before.waits)

-- an initialisation began that a frame waits for
abbrev pub Awaits : Shape → (before after : Rest) → Frame → (class : List ℕ) → Control → Type 0
Awaits p before after f class k =
    state_at p after k ≡ begin p (whole p before) class (AfterInit (frame_of f) ∷ waits_of before.waits)

keeps_same : (a : Answer) (w : World) → Keeps a w w
keeps_same (answer.Gives v) w = tt
keeps_same (answer.Raises e) w = λ inits. refl
keeps_same (answer.Begins key args) w = λ inits. refl
keeps_same answer.NoAnswer w = λ inits. refl

-- an answer in a world that isn't changed
pub as_changes : (a : Answer) (w : World) (d : Whole → Due) → Answered a w d → Changes a w w d
as_changes a w d h = (h, keeps_same a w)
