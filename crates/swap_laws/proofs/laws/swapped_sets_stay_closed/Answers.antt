-- Answers of `swapped_sets_stay_closed`: what its calls ask for, and what it promises.
use Rattle.swap_laws.proofs.Closing.{swap_keeps_closed}
use Rattle.swap_laws.proofs.laws.swapped_sets_stay_closed.Goals as goal

pub returns : goal.returns
returns c = swap_keeps_closed
