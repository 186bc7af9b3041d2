-- Answers of `write_frames_with`: what its calls ask for, and what it promises.
use Rattle.std.proofs.Common.{None, rules}
use Rattle.class_laws.proofs.FrameRows.{rows_counted}
use Rattle.frame_write.proofs.writing.write_frames_with.Goals as goal

pub returns : goal.returns
returns c = rw (rows_counted c.args.constants.now c.args.starts.now c.args.first.now.locals None c.args.frames.now)
    (search rules)
