-- Answers of `CompareFilesCommand::due_plan`: what its calls ask for, and what it promises.
use Rattle.std.proofs.Common.{[]}
use Rattle.std.proofs.lemmas.Result.{err_from_is_err_and}
use Rattle.tree_io.specs.Files.{Files}
use Rattle.command_frame.proofs.Steps.{first_stops, then_finds}
use Rattle.command_steps.specs.Config.{IsConfigured}
use Rattle.compare_command.specs.Due.{FollowsRules}
use Rattle.compare_command.proofs.command.CompareFilesCommand.due_plan.Goals as goal

pub returns-in_err-rules-clause-found : goal.returns-in_err-rules-clause-found
returns-in_err-rules-clause-found g c =
    let p = err_from_is_err_and c.from_residual.result c.from_residual.ensures.1 in
    let named = c.args.self.now in
    rw (p.1, p.2) (first_stops (λ (fs : Files). IsConfigured fs named.config [])
    (λ (fs : Files). FollowsRules named fs) c.in_err-rules.field-0.0 _ _ c.in_err-rules.ensures)

pub returns-clause-found : goal.returns-clause-found
returns-clause-found g c =
    let named = c.args.self.now in
    then_finds (λ (fs : Files). IsConfigured fs named.config []) (λ (fs : Files). FollowsRules named fs)
    c.in_ok-rules.rules c.compare_by_rules.result _ _ _ c.in_ok-rules.ensures c.compare_by_rules.ensures.found
