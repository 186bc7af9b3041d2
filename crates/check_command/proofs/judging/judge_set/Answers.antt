-- Answers of `judge_set`: what its calls ask for, and what it promises.
use Rattle.std.proofs.lemmas.Result.{err_from_is_err_and}
use Rattle.mark_core.specs.declared.system.System.{System}
use Rattle.command_frame.proofs.Steps.{makes_stops, then_makes}
use Rattle.command_steps.specs.System.{IsSystem}
use Rattle.check_command.specs.Due.{IsPair}
use Rattle.check_command.proofs.judging.judge_set.Goals as goal

pub returns-in_err-sys-clause-judged : goal.returns-in_err-sys-clause-judged
returns-in_err-sys-clause-judged c =
    let p = err_from_is_err_and c.from_residual.result c.from_residual.ensures.1 in
    rw (p.1, p.2) (makes_stops (IsSystem c.args.rules.now c.args.set.now)
    (λ (sys : System). IsPair c.args.rules.now c.args.texts.now c.args.output.now c.args.set.now)
    c.in_err-sys.field-0.0 c.in_err-sys.ensures.made)

pub returns-clause-judged : goal.returns-clause-judged
returns-clause-judged c =
    then_makes (IsSystem c.args.rules.now c.args.set.now)
    (λ (sys : System). IsPair c.args.rules.now c.args.texts.now c.args.output.now c.args.set.now)
    c.in_ok-sys.sys c.judge_pair.result c.in_ok-sys.ensures.made c.judge_pair.ensures.judged
