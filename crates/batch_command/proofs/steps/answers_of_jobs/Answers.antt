-- Answers of `answers_of_jobs`: what its calls ask for, and what it promises.
use Rattle.std.proofs.lemmas.Result.{err_from_is_err_and}
use Rattle.tree_io.specs.Files.{Files}
use Rattle.batch_command.specs.Jobs.{Each, FollowsConfigs}
use Rattle.batch_command.proofs.Finding.{first_halts, then_all}
use Rattle.batch_command.proofs.steps.answers_of_jobs.Goals as goal

pub returns-in_err-configs : goal.returns-in_err-configs
returns-in_err-configs g c =
    let p = err_from_is_err_and c.from_residual.result c.from_residual.ensures.1 in
    let parts = g.W.Work.parts in
    rw (p.1, p.2) (first_halts (λ (fs : Files). Each (parts.config fs) c.args.jobs)
    (FollowsConfigs parts c.args.list.now) c.in_err-configs.field-0.0 _ _ c.in_err-configs.ensures.found)

pub returns : goal.returns
returns g c =
    let parts = g.W.Work.parts in
    then_all (λ (fs : Files). Each (parts.config fs) c.args.jobs) (FollowsConfigs parts c.args.list.now)
    c.in_ok-configs.configs c.answers_of_configs.result _ _ _ c.in_ok-configs.ensures.found c.answers_of_configs.ensures
