-- Answers of `far_above`: what its calls ask for, and what it promises.
use Rattle.type_verifier.proofs.Climbing.{far_here}
use Rattle.type_verifier.proofs.hierarchy.far_above.Goals as goal

pub returns-in-None : goal.returns-in-None
returns-in-None c = far_here c.args.set.now c.args.above c.requires.there
