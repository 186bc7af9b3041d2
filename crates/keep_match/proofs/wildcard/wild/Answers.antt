-- Answers of `wild`: what its calls ask for, and what it promises.
use Rattle.keep_match.specs.Wildcards.{wild}
use Rattle.std.proofs.Common.{◌∙◌}
use Rattle.keep_match.proofs.WildLaw.{wild_is}
use Rattle.keep_match.proofs.wildcard.wild.Goals as goal

pub returns-clause-is : goal.returns-clause-is
returns-clause-is c = wild_is _ _ _ c.is_cut.ensures ∙ (λ i. wild (c.as_str.ensures i) (c.as_str-2.ensures i))
