-- Answers of `check_has_an_answer`: what its calls ask for, and what it promises.
use Rattle.check_laws.proofs.Told.{some_check}
use Rattle.check_laws.proofs.laws.check_has_an_answer.Goals as goal

pub returns : goal.returns
returns c = some_check
