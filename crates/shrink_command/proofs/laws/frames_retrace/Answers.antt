-- Answers of `frames_retrace`: what its calls ask for, and what it promises.
use Rattle.pair_laws.proofs.PairSound.Sound.{checked_retraced}
use Rattle.shrink_command.proofs.laws.frames_retrace.Goals as goal

pub returns : goal.returns
returns c = checked_retraced
