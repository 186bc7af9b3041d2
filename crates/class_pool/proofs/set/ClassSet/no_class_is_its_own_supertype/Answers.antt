-- Answers of `ClassSet::no_class_is_its_own_supertype`: what its calls ask for, and what it promises.
use Rattle.std.proofs.Common.{subst}
use Rattle.class_pool.specs.Supertypes.{NoCycle}
use Rattle.class_pool.proofs.set.ClassSet.no_class_is_its_own_supertype.Goals as goal

pub returns : goal.returns
returns c = subst NoCycle c.self.view_is c.self.invariant.3
