-- Answers of `call_special`: what its calls ask for, and what it promises.
use Rattle.std.proofs.lemmas.Result.{IfOk-weaker}
use Rattle.jvm_model.specs.Calls.{call_special}
use Rattle.run_heap.specs.Answers.{Changes}
use Rattle.run_heap.specs.bodies.Receivers.{choice_answer}
use Rattle.run_heap.proofs.Due.{as_due}
use Rattle.run_heap.proofs.calls.call_special.Goals as goal

pub returns : goal.returns
returns g c =
    let is = rw c.as_slice.ensures at c.in_ok-choice.ensures in
    IfOk-weaker _
    (λ a. Changes a c.args.world.now c.chosen.new.world (λ w. choice_answer c.in_ok-choice.choice w c.args.operands))
    (λ a. Changes a c.args.world.now c.chosen.new.world (λ w. call_special (g.S.Shapes.shape c.args.shapes.now)
    c.args.from.now w c.args.method.now c.args.operands))
    (λ a h. as_due a c.args.world.now c.chosen.new.world
    (λ w. choice_answer c.in_ok-choice.choice w c.args.operands)
    (λ w. call_special (g.S.Shapes.shape c.args.shapes.now) c.args.from.now w c.args.method.now c.args.operands)
    is h)
    c.chosen.ensures
