-- Answers of `compare`: what its calls ask for, and what it promises.
use Rattle.std.proofs.lemmas.Result.{err_from_is_err_and}
use Rattle.command_frame.proofs.Steps.{makes_stops, then_makes}
use Rattle.compare_command.specs.Due.{IsCompared, IsSeedStart}
use Rattle.compare_command.proofs.comparing.compare.Goals as goal

pub returns-in_err-start-clause-compared : goal.returns-in_err-start-clause-compared
returns-in_err-start-clause-compared c =
    let p = err_from_is_err_and c.from_residual.result c.from_residual.ensures.1 in
    let named = c.args.named.now in
    rw (p.1, p.2) (makes_stops (IsSeedStart c.args.rules.now c.args.input.now named)
    (IsCompared c.args.mapping.now c.args.input.now c.args.output.now named.steps) c.in_err-start.field-0.0
    c.in_err-start.ensures)

pub returns-clause-compared : goal.returns-clause-compared
returns-clause-compared c =
    let named = c.args.named.now in
    then_makes (IsSeedStart c.args.rules.now c.args.input.now named)
    (IsCompared c.args.mapping.now c.args.input.now c.args.output.now named.steps) c.in_ok-start.start
    c.compare_runs.result c.in_ok-start.ensures c.compare_runs.ensures.compared
