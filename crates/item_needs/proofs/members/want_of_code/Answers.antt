-- Answers of `want_of_code`: what its calls ask for, and what it promises.
use Rattle.item_needs.proofs.SharedFrames.{code_then}
use Rattle.item_needs.proofs.members.want_of_code.Goals as goal

pub returns : goal.returns
returns c =
    code_then c.want_frames.result c.args.number c.args.code.now c.as_slice.result.now c.as_slice-2.result.now
    c.args.wants.now c.want_instructions.new.wants c.want_handlers.new.wants c.want_frames.new.wants c.as_slice.ensures
    c.as_slice-2.ensures c.in_ok-want_instructions.ensures c.in_ok-want_handlers.ensures c.want_frames.ensures
