-- Answers of `call_other`: what its calls ask for, and what it promises.
use Rattle.std.proofs.Common.{◌∙◌}
use Rattle.std.proofs.lemmas.Result.{IfOk-weaker}
use Rattle.jvm_model.specs.Calls.{called}
use Rattle.run_heap.specs.Answers.{model_answer}
use Rattle.run_heap.specs.Targets.{target_of}
use Rattle.run_machine.specs.Inits.{init_at}
use Rattle.run_machine.specs.States.{waits_of}
use Rattle.run_machine.proofs.Answering.{carried}
use Rattle.run_machine.proofs.Coming.{Answers}
use Rattle.run_steps.specs.Frames.{body_of}
use Rattle.run_machine.proofs.asking.call_other.Goals as goal

pub returns : goal.returns
returns c = IfOk-weaker _
    (Answers (record c.args.rest.now { world = c.called.new.world }) c.on_answer.new.rest c.args.frame
    (λ p w. model_answer c.in_ok-answer.answer w))
    (Answers c.args.rest.now c.on_answer.new.rest c.args.frame
    (λ p w. called w c.args.arguments (target_of c.args.target)))
    (λ k h p b. h p b
    ∙ carried p (init_at p c.args.rest.now.marks) c.args.frame.method b (body_of c.args.frame.body)
    (waits_of c.args.rest.now.waits)
    c.in_ok-answer.answer c.args.rest.now.world c.called.new.world
    (λ w. called w c.args.arguments (target_of c.args.target))
    c.in_ok-answer.ensures) c.on_answer.ensures
