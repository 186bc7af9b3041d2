-- Answers of `put_rows`: what its calls ask for, and what it promises.
use Rattle.std.proofs.Common.{◌<◌, length, arith}
use Rattle.class_model.specs.declared.frame.FrameAt.{FrameAt}
use Rattle.class_model.specs.FrameLists.{no_frame, frame_numbered}
use Rattle.std.proofs.lemmas.List.Elements.{All-get_or}
use Rattle.frame_write.specs.Writing.{HasShortLists}
use Rattle.frame_write.specs.Forms.{locals_before}
use Rattle.frame_write.proofs.Changes.{forms_are_short}
use Rattle.frame_write.proofs.writing.put_rows.Goals as goal

pub put_row-requires-clause-form : goal.put_row-requires-clause-form
put_row-requires-clause-form c =
    let frame = frame_numbered c.args.frames.now c.loop-number.number in
    let lt : c.loop-number.number < length c.args.frames.now = omega arith in
    let short : HasShortLists frame.frame = All-get_or (λ (f : FrameAt). HasShortLists f.frame) c.args.frames.now
    c.loop-number.number no_frame lt c.requires.frames in
    rw c.in_ok-form.ensures (forms_are_short (locals_before c.args.first.now c.args.frames.now c.loop-number.number)
    frame.frame.locals frame.frame.stack short.locals short.stack)
