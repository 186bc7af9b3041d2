-- Answers of `removal_keeps_same`: what its calls ask for, and what it promises.
use Rattle.removal_laws.proofs.RemovalSame.SameNames.{removal_same, removal_steps}
use Rattle.removal_laws.proofs.removal_same.removal_keeps_same.Goals as goal

pub returns : goal.returns
returns c = record { same = removal_same; steps = removal_steps }
