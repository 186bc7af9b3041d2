-- Answers of `find_batch`: what its calls ask for, and what it promises.
use Rattle.std.proofs.Common.{◌≡◌, List, Result, Ok, ap}
use Rattle.std.proofs.lemmas.Result.{err_from_is_err_and}
use Rattle.command_frame.specs.declared.command.Plan.{Plan}
use Rattle.command_frame.specs.declared.refusal.Refusal.{Refusal}
use Rattle.batch_command.specs.Batch.{batch_of}
use Rattle.batch_command.specs.Jobs.{AreAnswers}
use Rattle.batch_command.specs.declared.joined.Batch.{Batch}
use Rattle.batch_command.proofs.Finding.{first_halts, then_made}
use Rattle.batch_command.proofs.steps.find_batch.Goals as goal

-- the answers are joined
abbrev Joins : List (Result Plan Refusal) → Result Batch Refusal → Type 0
Joins answers due = due ≡ Ok (batch_of answers)

pub returns-in_err-answers-clause-found : goal.returns-in_err-answers-clause-found
returns-in_err-answers-clause-found g c =
    let p = err_from_is_err_and c.from_residual.result c.from_residual.ensures.1 in
    rw (p.1, p.2) (first_halts (AreAnswers g.W.Work.parts c.args.list.now) (λ fs. Joins) c.in_err-answers.field-0.0 _ _
    c.in_err-answers.ensures)

pub returns-clause-found : goal.returns-clause-found
returns-clause-found g c =
    then_made (AreAnswers g.W.Work.parts c.args.list.now) Joins c.in_ok-answers.answers (Ok c.in_ok-batch_of.field-0) _ _
    c.in_ok-answers.ensures (ap Ok c.in_ok-batch_of.ensures)
