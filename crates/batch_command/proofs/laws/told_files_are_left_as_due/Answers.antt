-- Answers of `told_files_are_left_as_due`: what its calls ask for, and what it promises.
use Rattle.batch_command.specs.Batch.{IsDue}
use Rattle.batch_command.proofs.OfJobs.{leaves_told}
use Rattle.batch_command.proofs.laws.told_files_are_left_as_due.Goals as goal

pub returns : goal.returns
returns g c list = leaves_told (IsDue g.W.Work.parts list)
