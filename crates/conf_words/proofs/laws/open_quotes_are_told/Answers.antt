-- Answers of `open_quotes_are_told`: what its calls ask for, and what it promises.
use Rattle.conf_words.proofs.Parsed.{open_law}
use Rattle.conf_words.proofs.laws.open_quotes_are_told.Goals as goal

pub returns : goal.returns
returns c = open_law
