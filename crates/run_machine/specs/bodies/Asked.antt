-- What comes of what a frame asks, by the frame as it stood before it took its operands (JVMS 6.5; only the proof of
-- the bodies needs it).
use Rattle.std.specs.Prelude.{◌≡◌, List}
use Rattle.jvm_model.specs.Answers.{Answer}
use Rattle.jvm_model.specs.Heap.{World as Whole}
use Rattle.jvm_model.specs.Program.{Shape}
use Rattle.jvm_model.specs.Requests.{answer}
use Rattle.jvm_model.specs.Step.{on_answer}
use Rattle.jvm_model.specs.Value.{Value}
use Rattle.run_machine.specs.States.{state_at, waits_of, whole}
use Rattle.run_machine.specs.declared.state.Control.{Control}
use Rattle.run_machine.specs.declared.state.Frame.{Frame}
use Rattle.run_machine.specs.declared.state.Rest.{Rest}
use Rattle.run_steps.specs.Frames.{body_of}
use Rattle.run_steps.specs.Outcomes.{IsWithout, Waits, request_of}
use Rattle.run_steps.specs.declared.body.Body.{Body}
use Rattle.run_steps.specs.declared.outcome.Outcome.TheVariants as outcome
use Rattle.run_steps.specs.declared.outcome.Request.{Request}

-- the state is the one that is due on an answer
abbrev pub Comes : Shape → (before after : Rest) → Control → Frame → Body → (Whole → Answer) → Type 0
Comes p before after c f b due = state_at p after c
    ≡ on_answer p (whole p before) f.method (body_of b) (body_of f.body) (waits_of before.waits) (due (whole p before))

-- the same for each frame that stands so with these operands, the top first
abbrev pub AsksWith : Shape → (before after : Rest) → Control → Frame → List Value → (Whole → Answer) → Type 0
AsksWith p before after c f vs due = (b : Body) → IsWithout vs b f.body → Comes p before after c f b due

-- the same for each frame that stands so before it asks
abbrev pub Asks : Shape → (before after : Rest) → Control → Frame → Request → Type 0
Asks p before after c f r = (b : Body) → Waits (outcome.Wants r) b f.body
    → Comes p before after c f b (λ w. answer p f.method.class w (request_of r))
