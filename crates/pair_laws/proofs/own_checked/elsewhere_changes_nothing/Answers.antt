-- Answers of `elsewhere_changes_nothing`: what its calls ask for, and what it promises.
use Rattle.pair_laws.proofs.OwnChecked.Put.{elsewhere_same}
use Rattle.pair_laws.proofs.own_checked.elsewhere_changes_nothing.Goals as goal

pub returns : goal.returns
returns c = elsewhere_same
