-- Answers of `judge`: what its calls ask for, and what it promises.
use Rattle.std.proofs.lemmas.Result.{err_from_is_err_and}
use Rattle.command_frame.proofs.Steps.{makes_stops, then_makes}
use Rattle.command_steps.specs.Sets.{IsSet}
use Rattle.check_command.specs.Due.{FollowsSet}
use Rattle.check_command.proofs.judging.judge.Goals as goal

pub returns-in_err-set-clause-judged : goal.returns-in_err-set-clause-judged
returns-in_err-set-clause-judged c =
    let p = err_from_is_err_and c.from_residual.result c.from_residual.ensures.1 in
    rw (p.1, p.2) (makes_stops (IsSet c.args.rules.now.in_dir c.args.directories.input)
    (FollowsSet c.args.rules.now c.args.texts.now c.args.directories.output) c.in_err-set.field-0.0
    c.in_err-set.ensures.made)

pub returns-clause-judged : goal.returns-clause-judged
returns-clause-judged c =
    then_makes (IsSet c.args.rules.now.in_dir c.args.directories.input)
    (FollowsSet c.args.rules.now c.args.texts.now c.args.directories.output) c.in_ok-set.set c.judge_set.result
    c.in_ok-set.ensures.made c.judge_set.ensures.judged

pub judge_set-requires-clause-accepted : goal.judge_set-requires-clause-accepted
judge_set-requires-clause-accepted c = (c.args.directories.input, c.in_ok-set.ensures.made)
