-- Answers of `GenFilesCommand::due_plan`: what its calls ask for, and what it promises.
use Rattle.std.proofs.Common.{◌≡◌, Result, Ok}
use Rattle.std.proofs.lemmas.Result.{err_from_is_err_and}
use Rattle.tree_io.specs.Files.{Files}
use Rattle.command_frame.proofs.Steps.{first_stops, then_made}
use Rattle.command_frame.specs.declared.command.Plan.{Plan}
use Rattle.command_frame.specs.declared.refusal.Refusal.{Refusal}
use Rattle.gen_command.specs.Due.{IsEmptied, plan_for}
use Rattle.gen_command.specs.declared.command.GenFiles.{GenFiles}
use Rattle.gen_command.proofs.command.GenFilesCommand.due_plan.Goals as goal

-- the plan is due where the directory is empty
abbrev IsPlanned : GenFiles → Result Plan Refusal → Type 0
IsPlanned named due = due ≡ Ok (plan_for named)

pub returns-in_err-check_empty-clause-found : goal.returns-in_err-check_empty-clause-found
returns-in_err-check_empty-clause-found g c =
    let named = c.args.self.now in
    let p = err_from_is_err_and c.from_residual.result c.from_residual.ensures.1 in
    rw (p.1, p.2) (first_stops (λ (fs : Files). IsEmptied fs named.directory)
    (λ (fs : Files) (done : Unit {0}). IsPlanned named) c.in_err-check_empty.field-0.0 _ _ c.in_err-check_empty.ensures)

pub returns-clause-found : goal.returns-clause-found
returns-clause-found g c =
    let named = c.args.self.now in
    then_made (λ (fs : Files). IsEmptied fs named.directory) (λ (done : Unit {0}). IsPlanned named) tt _ _
    c.in_ok-check_empty.ensures c.plan_of.result c.plan_of.ensures.told
