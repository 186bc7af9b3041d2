-- Answers of `want_frames`: what its calls ask for, and what it promises.
use Rattle.std.proofs.Common.{arith}
use Rattle.item_numbers.proofs.Gathering.{nothing}
use Rattle.item_needs.proofs.SharedFrames.{more_frames, same_is}
use Rattle.item_needs.proofs.frames.want_frames.Goals as goal

pub loop-at-init : goal.loop-at-init
loop-at-init c = same_is _ _ (nothing _)

pub loop-at-preserved : goal.loop-at-preserved
loop-at-preserved c =
    more_frames c.args.frames.now c.loop-at.at c.args.wants.now c.loop-at.wants _ (omega
    (arith, c.loop-at-test.true, c.len-at-end.ensures)) c.loop-at.invariant
    c.in_ok-want_frame.ensures
