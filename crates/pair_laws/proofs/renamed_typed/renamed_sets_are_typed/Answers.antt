-- Answers of `renamed_sets_are_typed`: what its calls ask for, and what it promises.
use Rattle.pair_laws.proofs.RenamedTyped.Typing.{renamed_typed}
use Rattle.pair_laws.proofs.renamed_typed.renamed_sets_are_typed.Goals as goal

pub returns : goal.returns
returns c = renamed_typed
