-- Answers of `judge`: what its calls ask for, and what it promises.
use Rattle.set_vectors.proofs.Judged.{judged}
use Rattle.set_vectors.proofs.judging.judge.Goals as goal

pub returns : goal.returns
returns c = judged c.args.files c.in-Ok.set c.judge_set.result c.in-Ok.ensures c.judge_set.ensures
