-- Answers of `swapped_sets_are_taken`: what its calls ask for, and what it promises.
use Rattle.swap_laws.proofs.Links.{links_again}
use Rattle.swap_laws.proofs.Taken.{swap_keeps_taken}
use Rattle.swap_laws.proofs.laws.swapped_sets_are_taken.Goals as goal

pub returns-clause-links : goal.returns-clause-links
returns-clause-links c = links_again

pub returns-clause-taken : goal.returns-clause-taken
returns-clause-taken c = swap_keeps_taken
