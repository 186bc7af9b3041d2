-- Answers of `option_in`: what its calls ask for, and what it promises.
use Rattle.std.proofs.Common.{sym}
use Rattle.keep_rules.specs.Reading.{word_is_option}
use Rattle.keep_rules.proofs.Spelling.{found_none, found_within}
use Rattle.keep_rules.proofs.reading.option_in.Goals as goal

pub returns-in-Some-clause-within : goal.returns-in-Some-clause-within
returns-in-Some-clause-within c = found_within word_is_option c.args.words.now c.in-Some.at (sym c.in-Some.ensures)

pub returns-in-None-clause-at : goal.returns-in-None-clause-at
returns-in-None-clause-at c = found_none word_is_option c.args.words.now (sym c.in-None.ensures)
