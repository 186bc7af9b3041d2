-- Answers of `some_due`: what its calls ask for, and what it promises.
use Rattle.gen_command.proofs.OneDue.{some_due}
use Rattle.gen_command.proofs.laws.some_due.Goals as goal

pub returns : goal.returns
returns c = some_due
