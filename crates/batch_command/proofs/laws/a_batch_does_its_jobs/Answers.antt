-- Answers of `a_batch_does_its_jobs`: what its calls ask for, and what it promises.
use Rattle.batch_command.proofs.OfJobs.{is_of_jobs}
use Rattle.batch_command.proofs.laws.a_batch_does_its_jobs.Goals as goal

pub returns : goal.returns
returns g c = is_of_jobs g.W.Work.parts
