-- Answers of `is_ranked`: what its calls ask for, and what it promises.
use Rattle.class_pool.proofs.hierarchy.cycles.is_ranked.Goals as goal

pub returns : goal.returns
returns c = λ is. (c.as_slice.result.now, c.are_ranked.ensures.0 is)
