-- Answers of `removal_builds_again`: what its calls ask for, and what it promises.
use Rattle.removal_laws.proofs.RemovalBuilds.Again.{built_again}
use Rattle.removal_laws.proofs.removal_builds.removal_builds_again.Goals as goal

pub returns : goal.returns
returns c = built_again
