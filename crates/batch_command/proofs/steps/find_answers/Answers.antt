-- Answers of `find_answers`: what its calls ask for, and what it promises.
use Rattle.std.proofs.lemmas.Result.{err_from_is_err_and}
use Rattle.tree_io.specs.Files.{Files}
use Rattle.batch_command.specs.Jobs.{AreListed, FollowsList}
use Rattle.batch_command.proofs.Finding.{finds_all, first_halts, had, halt, then_all}
use Rattle.batch_command.proofs.steps.find_answers.Goals as goal

pub returns-in_err-jobs : goal.returns-in_err-jobs
returns-in_err-jobs g c =
    let p = err_from_is_err_and c.from_residual.result c.from_residual.ensures.1 in
    let list = c.args.list.now in
    rw (p.1, p.2) (first_halts (λ (fs : Files). AreListed fs list) (FollowsList g.W.Work.parts list)
    c.in_err-jobs.field-0.0 _ _
    (finds_all (halt c.in_err-jobs.field-0.0) (λ (fs : Files). AreListed fs list) _ _ c.in_err-jobs.ensures))

pub returns : goal.returns
returns g c =
    let list = c.args.list.now in
    then_all (λ (fs : Files). AreListed fs list) (FollowsList g.W.Work.parts list) c.in_ok-jobs.jobs
    c.answers_of_jobs.result _ _ _
    (finds_all (had c.in_ok-jobs.jobs) (λ (fs : Files). AreListed fs list) _ _ c.in_ok-jobs.ensures)
    c.answers_of_jobs.ensures
