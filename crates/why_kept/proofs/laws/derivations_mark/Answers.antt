-- Answers of `derivations_mark`: what its calls ask for, and what it promises.
use Rattle.why_kept.proofs.Marking.{marked_by_derivations}
use Rattle.why_kept.proofs.laws.derivations_mark.Goals as goal

pub returns : goal.returns
returns c = marked_by_derivations
