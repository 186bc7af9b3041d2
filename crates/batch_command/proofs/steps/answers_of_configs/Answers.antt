-- Answers of `answers_of_configs`: what its calls ask for, and what it promises.
use Rattle.std.proofs.Common.{List, Result, subst}
use Rattle.std.proofs.lemmas.Result.{err_from_is_err_and}
use Rattle.tree_io.specs.Files.{Files}
use Rattle.command_frame.specs.Steps.{seen}
use Rattle.command_frame.specs.declared.refusal.Refusal.{Refusal}
use Rattle.batch_command.specs.Finding.{FindsAll}
use Rattle.batch_command.specs.Jobs.{AreApart, FollowsApart}
use Rattle.batch_command.specs.declared.work.JobConfig.{JobConfig}
use Rattle.batch_command.proofs.Finding.{made_halts, made_then}
use Rattle.batch_command.proofs.steps.answers_of_configs.Goals as goal

pub returns-in_err-look_apart : goal.returns-in_err-look_apart
returns-in_err-look_apart g c =
    let p = err_from_is_err_and c.from_residual.result c.from_residual.ensures.1 in
    let list = c.args.list.now in
    rw (p.1, p.2) (made_halts (AreApart list c.args.configs)
    (λ (fs : Files) done. FollowsApart g.W.Work.parts fs c.args.configs) c.in_err-look_apart.field-0.0 _
    (rw c.as_slice.ensures at c.in_err-look_apart.ensures))

pub returns : goal.returns
returns g c =
    let list = c.args.list.now in
    let parts = g.W.Work.parts in
    made_then (AreApart list c.args.configs) (λ (fs : Files) done. FollowsApart parts fs c.args.configs) tt
    c.answers_apart.result _ _ (rw c.as_slice.ensures at c.in_ok-look_apart.ensures)
    (subst (λ (l : List (Result JobConfig Refusal)). FindsAll c.answers_apart.result (λ (fs : Files). FollowsApart parts fs l)
    (seen (g.T.Tree.files c.args.tree.now) (g.T.Tree.faults c.args.tree.now) (g.T.Tree.log c.args.tree.now))
    (seen (g.T.Tree.files c.answers_apart.new.tree) (g.T.Tree.faults c.answers_apart.new.tree)
    (g.T.Tree.log c.answers_apart.new.tree))) c.new_board-board.ensures c.answers_apart.ensures)
