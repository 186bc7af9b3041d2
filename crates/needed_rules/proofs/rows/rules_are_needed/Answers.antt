-- Answers of `rules_are_needed`: what its calls ask for, and what it promises.
use Rattle.needed_rules.proofs.Refused.{refused}
use Rattle.needed_rules.proofs.Wrong.{wrong}
use Rattle.needed_rules.proofs.rows.rules_are_needed.Goals as goal

pub returns : goal.returns
returns c = record { refused = refused; wrong = wrong }
