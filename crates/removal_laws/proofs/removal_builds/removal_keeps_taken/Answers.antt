-- Answers of `removal_keeps_taken`: what its calls ask for, and what it promises.
use Rattle.removal_laws.proofs.RemovalBuilds.Taken.{taken_again}
use Rattle.removal_laws.proofs.removal_builds.removal_keeps_taken.Goals as goal

pub returns : goal.returns
returns c = taken_again
