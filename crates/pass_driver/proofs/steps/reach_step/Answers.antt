-- Answers of `reach_step`: what its calls ask for, and what it promises.
use Rattle.std.proofs.Common.{subst}
use Rattle.std.proofs.lemmas.Result.{IfOk-weaker}
use Rattle.code_edit.specs.Facts.{IsAllReached}
use Rattle.code_edit.specs.declared.act.Pass.{Pass}
use Rattle.pass_driver.specs.bodies.After.{IsNext, code_of}
use Rattle.pass_driver.specs.declared.steps.After.{After}
use Rattle.pass_driver.proofs.Stepping.{reach_reaches}
use Rattle.pass_driver.proofs.steps.reach_step.Goals as goal

pub returns-clause-reached : goal.returns-clause-reached
returns-clause-reached c =
    IfOk-weaker c.put_step.result (IsNext c.args.own.now c.in_ok-edits.edits.pass c.args.after)
    (λ (more : After). IsAllReached (code_of c.args.own.now more))
    (λ more next. reach_reaches c.found_acts_are_legal.ensures c.left_codes_are_reached.ensures c.args.own.now
    c.args.after more c.requires.right
    (subst (λ (p : Pass). IsNext c.args.own.now p c.args.after more) c.in_ok-edits.ensures.pass next))
    c.put_step.ensures
