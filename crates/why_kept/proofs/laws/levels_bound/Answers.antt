-- Answers of `levels_bound`: what its calls ask for, and what it promises.
use Rattle.why_kept.proofs.Bounding.{bound_derivations}
use Rattle.why_kept.proofs.laws.levels_bound.Goals as goal

pub returns : goal.returns
returns c = bound_derivations
