-- Answers of `wait`: what its calls ask for, and what it promises.
use Rattle.why_kept.proofs.explain.wait.Goals as goal

pub returns : goal.returns
returns c = c.in_ok-insert.ensures.keys
