-- Answers of `rules_match_alike`: what its calls ask for, and what it promises.
use Rattle.swap_laws.proofs.Matching.{match_alike}
use Rattle.swap_laws.proofs.laws.rules_match_alike.Goals as goal

pub returns : goal.returns
returns c = match_alike
