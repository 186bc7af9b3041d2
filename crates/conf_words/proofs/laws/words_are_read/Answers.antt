-- Answers of `words_are_read`: what its calls ask for, and what it promises.
use Rattle.conf_words.proofs.Parsed.{words_law}
use Rattle.conf_words.proofs.laws.words_are_read.Goals as goal

pub returns : goal.returns
returns c = words_law
