-- Answers of `renaming_keeps_same`: what its calls ask for, and what it promises.
use Rattle.pair_laws.proofs.RenamedSame.AllKept.{renamed_same}
use Rattle.pair_laws.proofs.renamed_same.renaming_keeps_same.Goals as goal

pub returns : goal.returns
returns c = renamed_same
