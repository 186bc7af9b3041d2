-- Answers of `answers_apart`: what its calls ask for, and what it promises.
use Rattle.std.proofs.lemmas.Result.{err_from_is_err_and}
use Rattle.tree_io.specs.Files.{Files}
use Rattle.command_frame.specs.Steps.{Then}
use Rattle.batch_command.specs.Jobs.{Each, FollowsApart, IsPlan}
use Rattle.batch_command.specs.bodies.Workers.{AreFound, inputs_in}
use Rattle.batch_command.proofs.Finding.{first_halts, halt, lacks_behind, lacks_none, then_made}
use Rattle.batch_command.proofs.Working.{finds_so, follows_found}
use Rattle.batch_command.proofs.steps.answers_apart.Goals as goal

pub returns-in_err-crew : goal.returns-in_err-crew
returns-in_err-crew g c =
    let p = err_from_is_err_and c.from_residual.result c.from_residual.ensures.1 in
    rw (p.1, p.2) (lacks_none (λ (fs : Files). FollowsApart g.W.Work.parts fs c.args.board.now.configs) _)

pub returns-in_err-inputs : goal.returns-in_err-inputs
returns-in_err-inputs g c =
    let p = err_from_is_err_and c.from_residual-in_err-inputs.result c.from_residual-in_err-inputs.ensures.1 in
    let parts = g.W.Work.parts in
    let configs = c.args.board.now.configs in
    rw (p.1, p.2) (finds_so
    (λ (fs : Files). Then (AreFound parts fs configs) (λ found. Each (IsPlan parts) (inputs_in configs found)))
    (λ (fs : Files). FollowsApart parts fs configs) (halt c.in_err-inputs.field-0.0) _ _
    (λ (fs : Files). follows_found parts fs configs)
    (first_halts (λ (fs : Files). AreFound parts fs configs)
    (λ (fs : Files) found. Each (IsPlan parts) (inputs_in configs found)) c.in_err-inputs.field-0.0 _ _
    c.in_err-inputs.ensures.found))

pub returns-in_err-made : goal.returns-in_err-made
returns-in_err-made g c =
    let p = err_from_is_err_and c.from_residual-in_err-made.result c.from_residual-in_err-made.ensures.1 in
    let parts = g.W.Work.parts in
    let configs = c.args.board.now.configs in
    rw (p.1, p.2) (lacks_behind (λ (fs : Files). AreFound parts fs configs)
    (λ (fs : Files). FollowsApart parts fs configs) c.in_ok-inputs.inputs _ _ c.in_ok-inputs.ensures.found)

pub returns : goal.returns
returns g c =
    let parts = g.W.Work.parts in
    let configs = c.args.board.now.configs in
    finds_so (λ (fs : Files). Then (AreFound parts fs configs) (λ found. Each (IsPlan parts) (inputs_in configs found)))
    (λ (fs : Files). FollowsApart parts fs configs) c.gather.result _ _ (λ (fs : Files). follows_found parts fs configs)
    (then_made (λ (fs : Files). AreFound parts fs configs) (λ found. Each (IsPlan parts) (inputs_in configs found))
    c.in_ok-inputs.inputs c.gather.result _ _ c.in_ok-inputs.ensures.found c.gather.ensures)
