-- Answers of `pad`: what its calls ask for, and what it promises.
use Rattle.std.proofs.Common.{◌∙◌, arith}
use Rattle.witness_file.proofs.StepLines.{pad_pushed}
use Rattle.witness_file.proofs.steps.pad.Goals as goal

pub loop-alloc-preserved : goal.loop-alloc-preserved
loop-alloc-preserved c = pad_pushed c.args.count c.loop-alloc.steps c.push.new.self c.empty_step_of.result
    c.in-Some.step c.len-in-loop-alloc.result
    c.len-in-loop-alloc.ensures (omega (arith, c.len.ensures, c.loop-alloc-test.true)) c.empty_step_of.ensures
    c.in-Some.is c.in_ok-push.ensures
    ∙ c.loop-alloc.invariant
