-- Answers of `runs_retrace`: what its calls ask for, and what it promises.
use Rattle.pair_laws.proofs.PairTrace.Framed.{runs_retraced}
use Rattle.pair_laws.proofs.pair_trace.runs_retrace.Goals as goal

pub returns : goal.returns
returns c = runs_retraced
