-- Answers of `some_optimised`: what its calls ask for, and what it promises.
use Rattle.optimised_laws.proofs.SomeOptimised.{some_optimised}
use Rattle.optimised_laws.proofs.one.some_optimised.Goals as goal

pub returns : goal.returns
returns c = some_optimised
