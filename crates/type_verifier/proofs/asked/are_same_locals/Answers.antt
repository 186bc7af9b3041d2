-- Answers of `are_same_locals`: what its calls ask for, and what it promises.
use Rattle.std.proofs.Common.{◌∙◌}
use Rattle.class_model.specs.FrameLists.{frame_numbered}
use Rattle.type_verifier.proofs.Asking.{rest_same}
use Rattle.type_verifier.proofs.asked.are_same_locals.Goals as goal

pub returns : goal.returns
returns c is =
    rest_same (frame_numbered c.args.frames.now c.args.one).frame.locals
    (frame_numbered c.args.frames.now c.args.other).frame.locals c.as_slice.result.now c.as_slice-2.result.now
    c.shared-shared.result c.shared-shared.ensures.same (c.as_slice.ensures ∙ c.in_ok-one.ensures)
    (c.as_slice-2.ensures ∙ c.in_ok-other.ensures) (c.are_same_types.ensures.0 is)
