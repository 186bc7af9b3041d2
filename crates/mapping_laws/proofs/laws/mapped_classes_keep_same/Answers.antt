-- Answers of `mapped_classes_keep_same`: what its calls ask for, and what it promises.
use Rattle.mapping_laws.proofs.Whole.{mapped_same}
use Rattle.mapping_laws.proofs.laws.mapped_classes_keep_same.Goals as goal

pub returns : goal.returns
returns c = mapped_same
