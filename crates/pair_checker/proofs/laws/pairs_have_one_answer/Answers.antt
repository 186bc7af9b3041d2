-- Answers of `pairs_have_one_answer`: what its calls ask for, and what it promises.
use Rattle.pair_checker.proofs.OnlyOne.{one_answer, taken_or_refused}
use Rattle.pair_checker.proofs.laws.pairs_have_one_answer.Goals as goal

pub returns : goal.returns
returns c = record { either = taken_or_refused; one = one_answer }
