-- Answers of `lines_name_jobs`: what its calls ask for, and what it promises.
use Rattle.batch_list.proofs.Naming.{jobs_law}
use Rattle.batch_list.proofs.line.lines_name_jobs.Goals as goal

pub returns : goal.returns
returns c = jobs_law
