-- Answers of `filtering_keeps_same`: what its calls ask for, and what it promises.
use Rattle.removal_laws.proofs.FilteredSame.Doing.{filtered_does_the_same}
use Rattle.removal_laws.proofs.filtered_same.filtering_keeps_same.Goals as goal

pub returns : goal.returns
returns c = filtered_does_the_same
