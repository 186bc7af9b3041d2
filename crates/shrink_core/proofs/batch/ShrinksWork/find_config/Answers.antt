-- Answers of `ShrinksWork::find_config`: what its calls ask for, and what it promises.
use Rattle.std.proofs.lemmas.Result.{err_from_is_err_and}
use Rattle.tree_io.specs.Files.{Files}
use Rattle.command_frame.proofs.Steps.{first_stops, then_finds}
use Rattle.command_steps.specs.Config.{IsConfigApart}
use Rattle.shrink_core.specs.Batches.{IsApplied}
use Rattle.shrink_core.proofs.batch.ShrinksWork.find_config.Goals as goal

pub returns-in_err-rules-clause-found : goal.returns-in_err-rules-clause-found
returns-in_err-rules-clause-found g c =
    let p = err_from_is_err_and c.from_residual.result c.from_residual.ensures.1 in
    let job = c.args.job in
    rw (p.1, p.2) (first_stops (λ (fs : Files). IsConfigApart fs job.config job.witness)
    (λ (fs : Files). IsApplied fs job) c.in_err-rules.field-0.0 _ _ c.in_err-rules.ensures)

pub returns-clause-found : goal.returns-clause-found
returns-clause-found g c =
    let job = c.args.job in
    then_finds (λ (fs : Files). IsConfigApart fs job.config job.witness) (λ (fs : Files). IsApplied fs job)
    c.in_ok-rules.rules c.find_applied.result _ _ _ c.in_ok-rules.ensures c.find_applied.ensures.found
