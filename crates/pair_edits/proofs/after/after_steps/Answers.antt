-- Answers of `after_steps`: what its calls ask for, and what it promises.
use Rattle.std.proofs.Common.{Some, None, subst}
use Rattle.std.specs.Option.{unwrap_or}
use Rattle.class_model.specs.declared.code.Code.{Code}
use Rattle.pair_clauses.proofs.Zipped.{got}
use Rattle.pair_edits.specs.bodies.After.{IsStepped}
use Rattle.pair_edits.proofs.StepByStep.{no_step, one_step}
use Rattle.pair_edits.proofs.after.after_steps.Goals as goal

pub returns-in-None : goal.returns-in-None
returns-in-None c =
    let now : Code = unwrap_or c.loop-step.left c.args.code.now in
    let illegal = subst (λ (code : Code). IsStepped code c.step-item.result None) c.so_far.ensures
    (subst (IsStepped c.so_far.result.now c.step-item.result) c.in-None.is c.in_ok-after.ensures) in
    no_step c.args.steps.now c.args.code.now c.loop-step.step-index now c.loop-step.invariant c.step-item.result
    (got c.args.steps.now c.loop-step.step-index c.step-item.result c.loop-step-test.true c.step-item.is) illegal

pub loop-step-preserved : goal.loop-step-preserved
loop-step-preserved c =
    let now : Code = unwrap_or c.loop-step.left c.args.code.now in
    let stepped = subst (λ (code : Code). IsStepped code c.step-item.result (Some c.in-Some.after)) c.so_far.ensures
    (subst (IsStepped c.so_far.result.now c.step-item.result) c.in-Some.is c.in_ok-after.ensures) in
    one_step c.args.steps.now c.args.code.now c.loop-step.step-index now c.loop-step.invariant c.step-item.result
    c.in-Some.after
    (got c.args.steps.now c.loop-step.step-index c.step-item.result c.loop-step-test.true c.step-item.is) stepped.0 stepped.1 stepped.2
