-- Answers of `CheckFilesCommand::due_plan`: what its calls ask for, and what it promises.
use Rattle.std.proofs.lemmas.Result.{err_from_is_err_and}
use Rattle.tree_io.specs.Files.{Files}
use Rattle.command_frame.proofs.Steps.{first_stops, then_finds}
use Rattle.command_steps.specs.Config.{IsConfigured}
use Rattle.check_command.specs.Due.{FollowsRules}
use Rattle.check_command.proofs.command.CheckFilesCommand.due_plan.Goals as goal

pub returns-in_err-rules-clause-found : goal.returns-in_err-rules-clause-found
returns-in_err-rules-clause-found g c =
    let p = err_from_is_err_and c.from_residual.result c.from_residual.ensures.1 in
    let named = c.args.self.now in
    rw (p.1, p.2) (first_stops (λ (fs : Files). IsConfigured fs named.config named.witness)
    (λ (fs : Files). FollowsRules fs named.witness) c.in_err-rules.field-0.0 _ _ c.in_err-rules.ensures)

pub returns-clause-found : goal.returns-clause-found
returns-clause-found g c =
    let named = c.args.self.now in
    then_finds (λ (fs : Files). IsConfigured fs named.config named.witness)
    (λ (fs : Files). FollowsRules fs named.witness) c.in_ok-rules.rules c.check_by_rules.result _ _ _
    c.in_ok-rules.ensures c.check_by_rules.ensures.found
