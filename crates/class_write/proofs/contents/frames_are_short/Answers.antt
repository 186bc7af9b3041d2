-- Answers of `frames_are_short`: what its calls ask for, and what it promises.
use Rattle.std.proofs.Common.{rules, ◌<◌, ◌^◌}
use Rattle.class_write.proofs.CodeLengths.{short_frames}
use Rattle.class_write.proofs.contents.frames_are_short.Goals as goal

pub returns : goal.returns
returns c =
    let locals : c.args.code.now.max_locals < 2 ^ 16 = search rules in
    let stack : c.args.code.now.max_stack < 2 ^ 16 = search rules in
    short_frames c.args.code.now locals stack c.requires.code.frames
