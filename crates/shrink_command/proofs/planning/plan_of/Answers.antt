-- Answers of `plan_of`: what its calls ask for, and what it promises.
use Rattle.std.proofs.lemmas.Result.{err_from_is_err_and}
use Rattle.command_frame.proofs.Steps.{makes_stops, then_makes}
use Rattle.command_steps.specs.Sets.{IsSet}
use Rattle.shrink_command.specs.Due.{IsPlanned}
use Rattle.shrink_command.proofs.Planned.{given_set}
use Rattle.shrink_command.proofs.planning.plan_of.Goals as goal

pub set_plan-requires-clause-given : goal.set_plan-requires-clause-given
set_plan-requires-clause-given g c κs within =
    given_set c.args.inputs c.in_ok-set.set c.requires.files c.in_ok-set.ensures.made c.in_ok-set.ensures.writable

pub returns-in_err-set : goal.returns-in_err-set
returns-in_err-set g c =
    let p = err_from_is_err_and c.from_residual.result c.from_residual.ensures.1 in
    rw (p.1, p.2) (makes_stops (IsSet c.args.rules.now.in_dir c.args.inputs)
    (IsPlanned c.args.rules.now c.args.old.now c.args.witness.now) c.in_err-set.field-0.0 c.in_err-set.ensures.made)

pub returns : goal.returns
returns g c =
    then_makes (IsSet c.args.rules.now.in_dir c.args.inputs) (IsPlanned c.args.rules.now c.args.old.now c.args.witness.now)
    c.in_ok-set.set c.set_plan.result c.in_ok-set.ensures.made c.set_plan.ensures
