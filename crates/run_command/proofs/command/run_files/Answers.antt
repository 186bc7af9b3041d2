-- Answers of `run_files`: what its calls ask for, and what it promises.
use Rattle.std.proofs.lemmas.Result.{err_from_is_err_and}
use Rattle.command_frame.proofs.Steps.{makes_stops, then_makes}
use Rattle.command_steps.specs.Sets.{IsSet}
use Rattle.run_command.specs.Due.{FollowsSet}
use Rattle.run_command.proofs.command.run_files.Goals as goal

pub returns-in_err-set-clause-told : goal.returns-in_err-set-clause-told
returns-in_err-set-clause-told c =
    let p = err_from_is_err_and c.from_residual.result c.from_residual.ensures.1 in
    rw (p.1, p.2) (makes_stops (IsSet c.args.named.now.directory c.args.inputs) (FollowsSet c.args.named.now)
    c.in_err-set.field-0.0 c.in_err-set.ensures.made)

pub returns-clause-told : goal.returns-clause-told
returns-clause-told c =
    then_makes (IsSet c.args.named.now.directory c.args.inputs) (FollowsSet c.args.named.now) c.in_ok-set.set
    c.run_set.result c.in_ok-set.ensures.made c.run_set.ensures.told
