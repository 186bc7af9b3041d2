-- Answers of `want_frame`: what its calls ask for, and what it promises.
use Rattle.std.proofs.Common.{◌∙◌}
use Rattle.item_needs.proofs.SharedFrames.{frame_then}
use Rattle.item_needs.proofs.frames.want_frame.Goals as goal

pub returns : goal.returns
returns c =
    frame_then c.want_verification_types-2.result c.args.frames.now c.args.at c.shared_locals-shared.result
    c.as_slice.result.now c.as_slice-2.result.now c.args.wants.now c.want_verification_types.new.wants
    c.want_verification_types-2.new.wants c.shared_locals-shared.ensures (c.as_slice.ensures ∙ c.in_ok-locals.ensures)
    (c.as_slice-2.ensures ∙ c.in_ok-stack.ensures) c.in_ok-want_verification_types.ensures
    c.want_verification_types-2.ensures
