-- Answers of `what_is_due_is_a_pair`: what its calls ask for, and what it promises.
use Rattle.shrink_command.proofs.Paired.{due_pairs}
use Rattle.shrink_command.proofs.laws.what_is_due_is_a_pair.Goals as goal

pub returns : goal.returns
returns c = due_pairs
