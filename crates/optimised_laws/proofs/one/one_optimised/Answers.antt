-- Answers of `one_optimised`: what its calls ask for, and what it promises.
use Rattle.optimised_laws.proofs.OneOptimised.{one_optimised}
use Rattle.optimised_laws.proofs.one.one_optimised.Goals as goal

pub returns : goal.returns
returns c = one_optimised
