-- Answers of `what_is_written_is_ok`: what its calls ask for, and what it promises.
use Rattle.shrink_core.proofs.Again.{plan_checked}
use Rattle.shrink_core.proofs.laws.what_is_written_is_ok.Goals as goal

pub returns : goal.returns
returns c = plan_checked
