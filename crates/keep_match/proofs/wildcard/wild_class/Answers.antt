-- Answers of `wild_class`: what its calls ask for, and what it promises.
use Rattle.keep_match.proofs.WildLaw.{wild_class_is}
use Rattle.keep_match.proofs.wildcard.wild_class.Goals as goal

pub returns : goal.returns
returns c = wild_class_is _ _ _ c.is_cut.ensures
