-- Answers of `a_batch_does_its_shrinks`: what its calls ask for, and what it promises.
use Rattle.shrink_core.proofs.Batches.{is_of_shrinks}
use Rattle.shrink_core.proofs.laws.a_batch_does_its_shrinks.Goals as goal

pub returns : goal.returns
returns c = is_of_shrinks
