-- Answers of `one_due`: what its calls ask for, and what it promises.
use Rattle.gen_command.proofs.OneDue.{one_due}
use Rattle.gen_command.proofs.laws.one_due.Goals as goal

pub returns : goal.returns
returns c = one_due
