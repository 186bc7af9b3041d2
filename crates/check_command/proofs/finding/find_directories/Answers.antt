-- Answers of `find_directories`: what its calls ask for, and what it promises.
use Rattle.std.proofs.lemmas.Result.{err_from_is_err_and}
use Rattle.tree_io.specs.Files.{Files}
use Rattle.command_frame.proofs.Steps.{first_stops, then_finds}
use Rattle.command_steps.specs.Sets.{IsDirectory}
use Rattle.check_command.specs.Due.{FollowsInput}
use Rattle.check_command.proofs.finding.find_directories.Goals as goal

pub returns-in_err-input-clause-found : goal.returns-in_err-input-clause-found
returns-in_err-input-clause-found g c =
    let p = err_from_is_err_and c.from_residual.result c.from_residual.ensures.1 in
    rw (p.1, p.2) (first_stops (λ (fs : Files). IsDirectory fs c.args.from.now)
    (λ (fs : Files). FollowsInput fs c.args.to.now) c.in_err-input.field-0.0 _ _ c.in_err-input.ensures.found)

pub returns-clause-found : goal.returns-clause-found
returns-clause-found g c =
    then_finds (λ (fs : Files). IsDirectory fs c.args.from.now) (λ (fs : Files). FollowsInput fs c.args.to.now)
    c.in_ok-input.input c.find_output.result _ _ _ c.in_ok-input.ensures.found c.find_output.ensures.found
