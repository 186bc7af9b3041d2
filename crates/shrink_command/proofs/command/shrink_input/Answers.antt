-- Answers of `shrink_input`: what its calls ask for, and what it promises.
use Rattle.std.proofs.lemmas.Result.{err_from_is_err_and}
use Rattle.tree_io.specs.Files.{Files}
use Rattle.command_frame.proofs.Steps.{first_stops, then_made}
use Rattle.command_steps.specs.Sets.{IsDirectory}
use Rattle.shrink_command.specs.Due.{FollowsInput}
use Rattle.shrink_command.proofs.command.shrink_input.Goals as goal

pub returns-in_err-inputs : goal.returns-in_err-inputs
returns-in_err-inputs g c =
    let p = err_from_is_err_and c.from_residual.result c.from_residual.ensures.1 in
    let rules = c.args.rules.now in
    rw (p.1, p.2) (first_stops (λ (fs : Files). IsDirectory fs rules.in_dir)
    (λ (fs : Files). FollowsInput rules c.args.old.now c.args.witness.now) c.in_err-inputs.field-0.0 _ _
    c.in_err-inputs.ensures.found)

pub returns : goal.returns
returns g c =
    let rules = c.args.rules.now in
    then_made (λ (fs : Files). IsDirectory fs rules.in_dir) (FollowsInput rules c.args.old.now c.args.witness.now)
    c.in_ok-inputs.inputs _ _ c.in_ok-inputs.ensures.found c.plan_of.result c.plan_of.ensures
