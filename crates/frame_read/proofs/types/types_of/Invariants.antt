use Rattle.std.proofs.Common.{◌≡◌, map}
use Rattle.class_model.specs.ReadingFrames.{types_of}
use Rattle.frame_read.specs.bodies.Rows.{info_of}
use Rattle.frame_read.proofs.Loops.{onto, types_from}
use Rattle.frame_read.proofs.types.types_of.Given as goal

abbrev pub invariant-loop-info : goal.invariant-loop-info
invariant-loop-info l =
    onto l.types (types_from l.pool l.starts l.ops l.info-index l.infos)
    ≡ types_of l.pool l.starts l.ops (map info_of l.infos)
