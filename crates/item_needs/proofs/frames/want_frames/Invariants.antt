use Rattle.std.proofs.Common.{take}
use Rattle.std.specs.List.{flat_map}
use Rattle.require_sys.specs.Requires.{frame_wants}
use Rattle.item_numbers.specs.bodies.Wanting.{HasSame, wanting}
use Rattle.item_needs.proofs.frames.want_frames.Given as goal

abbrev pub invariant-loop-at : goal.invariant-loop-at
invariant-loop-at l = HasSame l.wants (wanting l.fn.wants (flat_map (frame_wants l.fn.wants.classes)
    (take l.at l.frames)))
