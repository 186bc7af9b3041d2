-- Answers of `push_steps`: what its calls ask for, and what it promises.
use Rattle.std.proofs.Common.{arith}
use Rattle.witness_file.proofs.Texts.{next_step}
use Rattle.witness_file.proofs.writing.push_steps.Goals as goal

pub loop-step-preserved : goal.loop-step-preserved
loop-step-preserved c = record {
  numbered = omega (arith, c.loop-step.invariant.numbered);
  written = next_step c.args.steps.now c.loop-step.step-index c.loop-step.number c.step-item.result
      c.as_slice.result.now c.args.out.now.items
      c.loop-step.out.items c.push_step.new.out.items c.loop-step-test.true c.step-item.is
      c.loop-step.invariant.numbered c.as_slice.ensures
      c.loop-step.invariant.written c.in_ok-push_step.ensures;
}
