-- Answers of `own_files_are_found`: what its calls ask for, and what it promises.
use Rattle.pair_laws.proofs.OwnPairs.Found.{files_below, files_found}
use Rattle.pair_laws.proofs.own_pairs.own_files_are_found.Goals as goal

pub returns : goal.returns
returns c = record { below = files_below; found = files_found }
