-- Answers of `returned_step`: what its calls ask for, and what it promises.
use Rattle.std.proofs.Common.{◌+◌}
use Rattle.jv_base.proofs.descriptors.returned_step.Goals as goal

pub returns-clause-placed : goal.returns-clause-placed
returns-clause-placed c = c.returned_grown.ensures.placed c.args.text.now (c.args.at + 1) c.in_ok-grown.ensures.placed
