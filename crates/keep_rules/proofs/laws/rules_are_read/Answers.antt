-- Answers of `rules_are_read`: what its calls ask for, and what it promises.
use Rattle.keep_rules.proofs.Gathering.{law}
use Rattle.keep_rules.proofs.laws.rules_are_read.Goals as goal

pub returns : goal.returns
returns c = law
