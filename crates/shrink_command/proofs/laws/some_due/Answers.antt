-- Answers of `some_due`: what its calls ask for, and what it promises.
use Rattle.shrink_command.proofs.SomeDue.{some_due}
use Rattle.shrink_command.proofs.laws.some_due.Goals as goal

pub returns : goal.returns
returns c = some_due
