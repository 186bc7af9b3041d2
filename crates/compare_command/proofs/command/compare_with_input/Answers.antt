-- Answers of `compare_with_input`: what its calls ask for, and what it promises.
use Rattle.std.proofs.lemmas.Result.{err_from_is_err_and}
use Rattle.tree_io.specs.Files.{Files}
use Rattle.command_frame.proofs.Steps.{first_stops, then_made}
use Rattle.compare_command.specs.Due.{FollowsOutput, IsSetAt}
use Rattle.compare_command.proofs.command.compare_with_input.Goals as goal

pub returns-in_err-output-clause-found : goal.returns-in_err-output-clause-found
returns-in_err-output-clause-found g c =
    let p = err_from_is_err_and c.from_residual.result c.from_residual.ensures.1 in
    rw (p.1, p.2) (first_stops (λ (fs : Files). IsSetAt fs c.args.rules.now.out_dir)
    (λ (fs : Files). FollowsOutput c.args.named.now c.args.rules.now c.args.mapping.now c.args.input.now)
    c.in_err-output.field-0.0 _ _ c.in_err-output.ensures)

pub returns-clause-found : goal.returns-clause-found
returns-clause-found g c =
    then_made (λ (fs : Files). IsSetAt fs c.args.rules.now.out_dir)
    (FollowsOutput c.args.named.now c.args.rules.now c.args.mapping.now c.args.input.now) c.in_ok-output.output _ _
    c.in_ok-output.ensures c.compare.result c.compare.ensures.compared
