-- Answers of `is_cut`: what its calls ask for, and what it promises.
use Rattle.keep_match.proofs.Scanning.{same_from_section}
use Rattle.keep_match.proofs.scan.is_cut.Goals as goal

pub loop-rest-init : goal.loop-rest-init
loop-rest-init c = same_from_section _ _ _ _ c.in-Some.ensures
