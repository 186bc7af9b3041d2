-- Answers of `frames_have_codes`: what its calls ask for, and what it promises.
use Rattle.pair_laws.proofs.PairTrace.Framed.{frames_coded}
use Rattle.pair_laws.proofs.pair_trace.frames_have_codes.Goals as goal

pub returns : goal.returns
returns c = frames_coded
