-- Answers of `left_is_renamed`: what its calls ask for, and what it promises.
use Rattle.pair_laws.proofs.OwnNames.Ordered.{left_ascends, left_renamed}
use Rattle.pair_laws.proofs.own_names.left_is_renamed.Goals as goal

pub returns : goal.returns
returns c = record { all = left_renamed; order = left_ascends }
