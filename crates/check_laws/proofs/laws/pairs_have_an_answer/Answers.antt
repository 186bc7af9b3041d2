-- Answers of `pairs_have_an_answer`: what its calls ask for, and what it promises.
use Rattle.check_laws.proofs.Answer.{some_answer}
use Rattle.check_laws.proofs.laws.pairs_have_an_answer.Goals as goal

pub returns : goal.returns
returns c = some_answer
