-- Answers of `frames_retrace`: what its calls ask for, and what it promises.
use Rattle.pair_laws.proofs.PairTrace.Traced.{frames_retraced}
use Rattle.pair_laws.proofs.pair_trace.frames_retrace.Goals as goal

pub returns : goal.returns
returns c = frames_retraced
