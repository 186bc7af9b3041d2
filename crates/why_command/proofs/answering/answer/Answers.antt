-- Answers of `answer`: what its calls ask for, and what it promises.
use Rattle.std.proofs.lemmas.Result.{err_from_is_err_and}
use Rattle.command_frame.proofs.Steps.{makes_stops, then_makes}
use Rattle.command_steps.specs.Sets.{IsSet}
use Rattle.why_command.specs.Due.{FollowsSet}
use Rattle.why_command.proofs.answering.answer.Goals as goal

pub returns-in_err-set-clause-answered : goal.returns-in_err-set-clause-answered
returns-in_err-set-clause-answered c =
    let p = err_from_is_err_and c.from_residual.result c.from_residual.ensures.1 in
    rw (p.1, p.2) (makes_stops (IsSet c.args.rules.now.in_dir c.args.inputs)
    (FollowsSet c.args.rules.now c.args.item.now) c.in_err-set.field-0.0 c.in_err-set.ensures.made)

pub returns-clause-answered : goal.returns-clause-answered
returns-clause-answered c =
    then_makes (IsSet c.args.rules.now.in_dir c.args.inputs) (FollowsSet c.args.rules.now c.args.item.now)
    c.in_ok-set.set c.set_answer.result c.in_ok-set.ensures.made c.set_answer.ensures.answered
