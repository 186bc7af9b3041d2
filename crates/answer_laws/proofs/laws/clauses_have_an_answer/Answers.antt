-- Answers of `clauses_have_an_answer`: what its calls ask for, and what it promises.
use Rattle.pair_checker.proofs.Sounding.{accepted_sound}
use Rattle.answer_laws.proofs.Clauses.{first_or_none}
use Rattle.answer_laws.proofs.laws.clauses_have_an_answer.Goals as goal

pub returns : goal.returns
returns c = λ files input output mapping rules witness accepted.
    first_or_none input output mapping rules witness (accepted_sound files input accepted)
