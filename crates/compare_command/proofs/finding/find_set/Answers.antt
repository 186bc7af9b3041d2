-- Answers of `find_set`: what its calls ask for, and what it promises.
use Rattle.std.proofs.lemmas.Result.{err_from_is_err_and}
use Rattle.tree_io.specs.Files.{Files}
use Rattle.command_frame.proofs.Steps.{first_stops, then_made}
use Rattle.command_steps.specs.Sets.{IsDirectory, IsSet}
use Rattle.compare_command.proofs.finding.find_set.Goals as goal

pub returns-in_err-files : goal.returns-in_err-files
returns-in_err-files g c =
    let p = err_from_is_err_and c.from_residual.result c.from_residual.ensures.1 in
    rw (p.1, p.2) (first_stops (λ (fs : Files). IsDirectory fs c.args.directory.now)
    (λ (fs : Files). IsSet c.args.directory.now) c.in_err-files.field-0.0 _ _ c.in_err-files.ensures.found)

pub returns : goal.returns
returns g c =
    then_made (λ (fs : Files). IsDirectory fs c.args.directory.now) (IsSet c.args.directory.now) c.in_ok-files.files _ _
    c.in_ok-files.ensures.found c.set_of.result c.set_of.ensures.made
