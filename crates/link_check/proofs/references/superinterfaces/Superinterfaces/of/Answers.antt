-- Answers of `Superinterfaces::of`: what its calls ask for, and what it promises.
use Rattle.link_check.proofs.Interfaces.{superinterfaces_there}
use Rattle.link_check.proofs.references.superinterfaces.Superinterfaces.of.Goals as goal

pub returns-clause-there : goal.returns-clause-there
returns-clause-there c = superinterfaces_there c.args.set.now c.of.result
