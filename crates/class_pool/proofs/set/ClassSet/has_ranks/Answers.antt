-- Answers of `ClassSet::has_ranks`: what its calls ask for, and what it promises.
use Rattle.std.proofs.Common.{subst}
use Rattle.class_pool.specs.Ranks.{HasRanks}
use Rattle.class_pool.proofs.set.ClassSet.has_ranks.Goals as goal

pub returns : goal.returns
returns c = subst HasRanks c.self.view_is c.self.invariant.1
