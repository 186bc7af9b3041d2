-- Answers of `one_answer`: what its calls ask for, and what it promises.
use Rattle.run_command.proofs.OneDue.{one_due}
use Rattle.run_command.proofs.laws.one_answer.Goals as goal

pub returns : goal.returns
returns c = one_due
