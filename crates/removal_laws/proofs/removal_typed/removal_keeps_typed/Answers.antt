-- Answers of `removal_keeps_typed`: what its calls ask for, and what it promises.
use Rattle.removal_laws.proofs.RemovalTyped.Typing.{typed_again}
use Rattle.removal_laws.proofs.removal_typed.removal_keeps_typed.Goals as goal

pub returns : goal.returns
returns c = typed_again
