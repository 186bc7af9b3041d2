-- Answers of `told_files_are_left_as_due`: what its calls ask for, and what it promises.
use Rattle.batch_command.specs.Batch as batch
use Rattle.batch_command.proofs.OfJobs as batches
use Rattle.check_command.specs.Due as check
use Rattle.command_frame.proofs.LeftFiles.{leaves_told}
use Rattle.compare_command.specs.Due as comparing
use Rattle.gen_command.specs.Due as generation
use Rattle.retrace_command.specs.Due as retrace
use Rattle.run_command.specs.Due as running
use Rattle.why_command.specs.Due as why
use Rattle.shrink_core.specs.Batches.{shrink_parts}
use Rattle.shrink_core.specs.Checked.{IsOk}
use Rattle.shrink_core.specs.Commands.{IsAny, IsGenerated, IsSame, IsText, PairIsDue}
use Rattle.shrink_core.proofs.laws.told_files_are_left_as_due.Goals as goal

pub returns-clause-shrink : goal.returns-clause-shrink
returns-clause-shrink c = λ named. leaves_told IsAny (PairIsDue named)

pub returns-clause-check : goal.returns-clause-check
returns-clause-check c = λ named. leaves_told IsOk (check.IsDue named)

pub returns-clause-retrace : goal.returns-clause-retrace
returns-clause-retrace c = λ named. leaves_told IsText (retrace.IsDue named)

pub returns-clause-generation : goal.returns-clause-generation
returns-clause-generation c = λ named. leaves_told (IsGenerated named) (generation.IsDue named)

pub returns-clause-why : goal.returns-clause-why
returns-clause-why c = λ named. leaves_told IsText (why.IsDue named)

pub returns-clause-running : goal.returns-clause-running
returns-clause-running c = λ named. leaves_told IsText (running.IsDue named)

pub returns-clause-comparing : goal.returns-clause-comparing
returns-clause-comparing c = λ named. leaves_told IsSame (comparing.IsDue named)

pub returns-clause-batch : goal.returns-clause-batch
returns-clause-batch c = λ list. batches.leaves_told (batch.IsDue shrink_parts list)
