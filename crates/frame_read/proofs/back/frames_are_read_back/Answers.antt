-- Answers of `frames_are_read_back`: what its calls ask for, and what it promises.
use Rattle.frame_read.proofs.BackFrames.{frames_read_back}
use Rattle.frame_read.proofs.BackGood.{good_frames_read_back}
use Rattle.frame_read.proofs.back.frames_are_read_back.Goals as goal

pub returns-clause-known : goal.returns-clause-known
returns-clause-known c = frames_read_back

pub returns-clause-good : goal.returns-clause-good
returns-clause-good c = good_frames_read_back
