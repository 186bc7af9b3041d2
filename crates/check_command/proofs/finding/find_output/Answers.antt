-- Answers of `find_output`: what its calls ask for, and what it promises.
use Rattle.std.proofs.Common.{◌≡◌, List, Result, Ok, refl}
use Rattle.std.proofs.lemmas.Result.{err_from_is_err_and}
use Rattle.tree_io.specs.Files.{Files}
use Rattle.tree_io.specs.declared.file_at.FileAt.{FileAt}
use Rattle.command_frame.proofs.Steps.{first_stops, then_made}
use Rattle.command_frame.specs.declared.refusal.Refusal.{Refusal}
use Rattle.command_steps.specs.Sets.{IsDirectory}
use Rattle.check_command.specs.declared.finding.Directories.{Directories}
use Rattle.check_command.proofs.finding.find_output.Goals as goal

-- both
abbrev Are : List FileAt → List FileAt → Result Directories Refusal → Type 0
Are input output due = due ≡ Ok (record { input = input; output = output })

pub returns-in_err-output-clause-found : goal.returns-in_err-output-clause-found
returns-in_err-output-clause-found g c =
    let p = err_from_is_err_and c.from_residual.result c.from_residual.ensures.1 in
    rw (p.1, p.2) (first_stops (λ (fs : Files). IsDirectory fs c.args.to.now) (λ (fs : Files). Are c.args.input)
    c.in_err-output.field-0.0 _ _ c.in_err-output.ensures.found)

pub returns-clause-found : goal.returns-clause-found
returns-clause-found g c =
    then_made (λ (fs : Files). IsDirectory fs c.args.to.now) (Are c.args.input) c.in_ok-output.output _ _
    c.in_ok-output.ensures.found _ refl
