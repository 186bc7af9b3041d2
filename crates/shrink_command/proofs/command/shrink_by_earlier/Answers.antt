-- Answers of `shrink_by_earlier`: what its calls ask for, and what it promises.
use Rattle.std.proofs.lemmas.Result.{err_from_is_err_and}
use Rattle.tree_io.specs.Files.{Files}
use Rattle.command_frame.proofs.Steps.{first_stops, then_finds}
use Rattle.shrink_command.specs.Due.{FollowsOutput, IsEmptied}
use Rattle.shrink_command.proofs.command.shrink_by_earlier.Goals as goal

pub returns-in_err-check_empty : goal.returns-in_err-check_empty
returns-in_err-check_empty g c =
    let p = err_from_is_err_and c.from_residual.result c.from_residual.ensures.1 in
    let rules = c.args.rules.now in
    rw (p.1, p.2) (first_stops (λ (fs : Files). IsEmptied fs rules.out_dir)
    (λ (fs : Files) (done : Unit {0}). FollowsOutput fs c.args.witness.now rules c.args.old.now) c.in_err-check_empty.field-0.0 _ _
    c.in_err-check_empty.ensures)

pub returns : goal.returns
returns g c =
    let rules = c.args.rules.now in
    then_finds (λ (fs : Files). IsEmptied fs rules.out_dir)
    (λ (fs : Files) (done : Unit {0}). FollowsOutput fs c.args.witness.now rules c.args.old.now) tt c.shrink_input.result _ _ _
    c.in_ok-check_empty.ensures c.shrink_input.ensures
