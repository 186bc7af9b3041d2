-- Answers of `seed_start`: what its calls ask for, and what it promises.
use Rattle.std.proofs.lemmas.Result.{err_from_is_err_and}
use Rattle.command_frame.proofs.Steps.{makes_stops, then_makes}
use Rattle.run_command.specs.Due.{IsStart}
use Rattle.compare_command.specs.Due.{IsSeed}
use Rattle.compare_command.proofs.comparing.seed_start.Goals as goal

pub returns-in_err-start : goal.returns-in_err-start
returns-in_err-start c =
    let p = err_from_is_err_and c.from_residual.result c.from_residual.ensures.1 in
    let named = c.args.named.now in
    rw (p.1, p.2) (makes_stops (IsStart c.args.input.now named.entry named.words)
    (IsSeed c.args.rules.now c.args.input.now named.entry) c.in_err-start.field-0.0 c.in_err-start.ensures)

pub returns : goal.returns
returns c =
    let named = c.args.named.now in
    then_makes (IsStart c.args.input.now named.entry named.words)
    (IsSeed c.args.rules.now c.args.input.now named.entry) c.in_ok-start.start c.kept_start.result
    c.in_ok-start.ensures c.kept_start.ensures
