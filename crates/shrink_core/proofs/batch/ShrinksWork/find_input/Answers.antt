-- Answers of `ShrinksWork::find_input`: what its calls ask for, and what it promises.
use Rattle.std.proofs.lemmas.Result.{err_from_is_err_and}
use Rattle.tree_io.specs.Files.{Files}
use Rattle.command_frame.proofs.Steps.{first_stops, then_finds}
use Rattle.command_steps.specs.Sets.{IsDirectory}
use Rattle.shrink_command.specs.Due.{IsEmptied}
use Rattle.shrink_core.proofs.Batches.{taken_so}
use Rattle.shrink_core.proofs.batch.ShrinksWork.find_input.Goals as goal

pub returns-in_err-check_empty-clause-found : goal.returns-in_err-check_empty-clause-found
returns-in_err-check_empty-clause-found g c =
    let p = err_from_is_err_and c.from_residual.result c.from_residual.ensures.1 in
    let rules = c.args.rules.now in
    rw (p.1, p.2) (first_stops (λ (fs : Files). IsEmptied fs rules.out_dir)
    (λ (fs : Files) (done : Unit {0}). IsDirectory fs rules.in_dir) c.in_err-check_empty.field-0.0 _ _
    c.in_err-check_empty.ensures)

pub returns-clause-found : goal.returns-clause-found
returns-clause-found g c =
    let rules = c.args.rules.now in
    then_finds (λ (fs : Files). IsEmptied fs rules.out_dir)
    (λ (fs : Files) (done : Unit {0}). IsDirectory fs rules.in_dir) tt c.find_files.result _ _ _
    c.in_ok-check_empty.ensures c.find_files.ensures.found

pub returns-clause-taken : goal.returns-clause-taken
returns-clause-taken g c = taken_so c.find_files.result c.find_files.ensures.taken
