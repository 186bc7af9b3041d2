-- Answers of `mapping_tells_names`: what its calls ask for, and what it promises.
use Rattle.pair_laws.proofs.OwnNames.Told.{mapping_tells}
use Rattle.pair_laws.proofs.own_names.mapping_tells_names.Goals as goal

pub returns : goal.returns
returns c = mapping_tells
