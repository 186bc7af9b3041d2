-- Answers of `RunFilesCommand::due_plan`: what its calls ask for, and what it promises.
use Rattle.std.proofs.lemmas.Result.{err_from_is_err_and}
use Rattle.tree_io.specs.Files.{Files}
use Rattle.command_frame.proofs.Steps.{first_stops, then_made}
use Rattle.command_steps.specs.Sets.{IsDirectory}
use Rattle.run_command.specs.Due.{FollowsFiles}
use Rattle.run_command.proofs.command.RunFilesCommand.due_plan.Goals as goal

pub returns-in_err-inputs-clause-found : goal.returns-in_err-inputs-clause-found
returns-in_err-inputs-clause-found g c =
    let p = err_from_is_err_and c.from_residual.result c.from_residual.ensures.1 in
    let named = c.args.self.now in
    rw (p.1, p.2) (first_stops (λ (fs : Files). IsDirectory fs named.directory)
    (λ (fs : Files). FollowsFiles named) c.in_err-inputs.field-0.0 _ _ c.in_err-inputs.ensures.found)

pub returns-clause-found : goal.returns-clause-found
returns-clause-found g c =
    let named = c.args.self.now in
    then_made (λ (fs : Files). IsDirectory fs named.directory) (FollowsFiles named) c.in_ok-inputs.inputs _ _
    c.in_ok-inputs.ensures.found c.run_files.result c.run_files.ensures.told
