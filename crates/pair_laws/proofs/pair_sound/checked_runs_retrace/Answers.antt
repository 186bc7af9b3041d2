-- Answers of `checked_runs_retrace`: what its calls ask for, and what it promises.
use Rattle.pair_laws.proofs.PairSound.Sound.{checked_runs}
use Rattle.pair_laws.proofs.pair_sound.checked_runs_retrace.Goals as goal

pub returns : goal.returns
returns c = checked_runs
