-- Answers of `new_names_keep_same`: what its calls ask for, and what it promises.
use Rattle.pair_laws.proofs.RenamedSame.NewSame.{new_same}
use Rattle.pair_laws.proofs.renamed_same.new_names_keep_same.Goals as goal

pub returns : goal.returns
returns c = new_same
