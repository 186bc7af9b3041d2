-- Answers of `SeenNames::has`: what its calls ask for, and what it promises.
use Rattle.std.proofs.Common.{◌∙◌}
use Rattle.pair_clauses.proofs.seen.SeenNames.has.Goals as goal

pub returns : goal.returns
returns c = λ names told. c.has.ensures ∙ told c.args.name.now
