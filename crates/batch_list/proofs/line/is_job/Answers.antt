-- Answers of `is_job`: what its calls ask for, and what it promises.
use Rattle.std.proofs.Common.{◌∙◌}
use Rattle.batch_list.specs.Line.{paths_of}
use Rattle.batch_list.proofs.Naming.{is_there}
use Rattle.batch_list.proofs.line.is_job.Goals as goal

pub returns : goal.returns
returns c = c.is_some.ensures ∙ is_there c.paths_of.result (paths_of c.args.line.now) c.paths_of.ensures
