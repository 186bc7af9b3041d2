-- Answers of `run_set`: what its calls ask for, and what it promises.
use Rattle.std.proofs.lemmas.Result.{err_from_is_err_and}
use Rattle.command_frame.proofs.Steps.{makes_stops, then_makes}
use Rattle.run_command.specs.Due.{IsRun, IsStart}
use Rattle.run_command.proofs.command.run_set.Goals as goal

pub returns-in_err-start-clause-told : goal.returns-in_err-start-clause-told
returns-in_err-start-clause-told c =
    let p = err_from_is_err_and c.from_residual.result c.from_residual.ensures.1 in
    let named = c.args.named.now in
    rw (p.1, p.2) (makes_stops (IsStart c.args.set.now named.entry named.words) (IsRun c.args.set.now named.steps)
    c.in_err-start.field-0.0 c.in_err-start.ensures)

pub returns-clause-told : goal.returns-clause-told
returns-clause-told c =
    let named = c.args.named.now in
    then_makes (IsStart c.args.set.now named.entry named.words) (IsRun c.args.set.now named.steps)
    c.in_ok-start.start c.run_start.result c.in_ok-start.ensures c.run_start.ensures.told
