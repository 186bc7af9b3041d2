-- Answers of `one_answer`: what its calls ask for, and what it promises.
use Rattle.check_command.proofs.OneDue.{one_due}
use Rattle.check_command.proofs.laws.one_answer.Goals as goal

pub returns : goal.returns
returns c = one_due c.pairs_have_one_answer.ensures.either c.pairs_have_one_answer.ensures.one
