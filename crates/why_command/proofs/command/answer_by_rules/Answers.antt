-- Answers of `answer_by_rules`: what its calls ask for, and what it promises.
use Rattle.std.proofs.lemmas.Result.{err_from_is_err_and}
use Rattle.tree_io.specs.Files.{Files}
use Rattle.command_frame.proofs.Steps.{first_stops, then_made}
use Rattle.command_steps.specs.Sets.{IsDirectory}
use Rattle.why_command.specs.Due.{FollowsInput}
use Rattle.why_command.proofs.command.answer_by_rules.Goals as goal

pub returns-in_err-inputs-clause-found : goal.returns-in_err-inputs-clause-found
returns-in_err-inputs-clause-found g c =
    let p = err_from_is_err_and c.from_residual.result c.from_residual.ensures.1 in
    rw (p.1, p.2) (first_stops (λ (fs : Files). IsDirectory fs c.args.rules.now.in_dir)
    (λ (fs : Files). FollowsInput c.args.rules.now c.args.item.now) c.in_err-inputs.field-0.0 _ _
    c.in_err-inputs.ensures.found)

pub returns-clause-found : goal.returns-clause-found
returns-clause-found g c =
    then_made (λ (fs : Files). IsDirectory fs c.args.rules.now.in_dir)
    (FollowsInput c.args.rules.now c.args.item.now) c.in_ok-inputs.inputs _ _ c.in_ok-inputs.ensures.found
    c.answer.result c.answer.ensures.answered
