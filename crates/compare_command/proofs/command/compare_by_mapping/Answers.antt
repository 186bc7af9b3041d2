-- Answers of `compare_by_mapping`: what its calls ask for, and what it promises.
use Rattle.std.proofs.lemmas.Result.{err_from_is_err_and}
use Rattle.tree_io.specs.Files.{Files}
use Rattle.command_frame.proofs.Steps.{first_stops, then_finds}
use Rattle.compare_command.specs.Due.{FollowsInput, IsSetAt}
use Rattle.compare_command.proofs.command.compare_by_mapping.Goals as goal

pub returns-in_err-input-clause-found : goal.returns-in_err-input-clause-found
returns-in_err-input-clause-found g c =
    let p = err_from_is_err_and c.from_residual.result c.from_residual.ensures.1 in
    rw (p.1, p.2) (first_stops (λ (fs : Files). IsSetAt fs c.args.rules.now.in_dir)
    (λ (fs : Files). FollowsInput c.args.named.now c.args.rules.now c.args.mapping.now fs) c.in_err-input.field-0.0 _ _
    c.in_err-input.ensures)

pub returns-clause-found : goal.returns-clause-found
returns-clause-found g c =
    then_finds (λ (fs : Files). IsSetAt fs c.args.rules.now.in_dir)
    (λ (fs : Files). FollowsInput c.args.named.now c.args.rules.now c.args.mapping.now fs) c.in_ok-input.input
    c.compare_with_input.result _ _ _ c.in_ok-input.ensures c.compare_with_input.ensures.found
