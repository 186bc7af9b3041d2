-- Answers of `first_step`: what its calls ask for, and what it promises.
use Rattle.type_verifier.proofs.Climbing.{far_here}
use Rattle.type_verifier.proofs.hierarchy.first_step.Goals as goal

pub returns : goal.returns
returns c = record {
  height = c.height_of.ensures;
  far = far_here c.args.set.now c.args.number c.requires.there;
}
