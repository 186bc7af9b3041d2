-- Answers of `what_is_ok_does_the_same`: what its calls ask for, and what it promises.
use Rattle.shrink_core.proofs.Checked.{ok_same}
use Rattle.shrink_core.proofs.laws.what_is_ok_does_the_same.Goals as goal

pub returns : goal.returns
returns c = ok_same
