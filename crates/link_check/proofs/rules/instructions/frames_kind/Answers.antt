-- Answers of `frames_kind`: what its calls ask for, and what it promises.
use Rattle.std.proofs.Common.{take, ◌∙◌}
use Rattle.std.specs.List.{flat_map}
use Rattle.link_check.specs.Profile.{frame_kinds}
use Rattle.link_check.proofs.rules.instructions.frames_kind.Goals as goal

pub loop-at-preserved : goal.loop-at-preserved
loop-at-preserved c =
    let one = c.in_ok-of_one.ensures in
    c.lesser-kind.ensures (flat_map (frame_kinds c.args.set.now c.args.number) (take c.loop-at.at c.args.frames.now))
    one.0
    c.loop-at.invariant one.1 ∙ one.2
