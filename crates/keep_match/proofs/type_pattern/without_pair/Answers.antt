-- Answers of `without_pair`: what its calls ask for, and what it promises.
use Rattle.keep_match.proofs.Pairs.{pair_is}
use Rattle.keep_match.proofs.type_pattern.without_pair.Goals as goal

pub returns : goal.returns
returns c = pair_is c.args.text.now c.strip_suffix.result c.strip_suffix.ensures.cases
