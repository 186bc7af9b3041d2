use Rattle.std.proofs.Common.{◌≡◌, ◌++◌, None}
use Rattle.std.specs.List.{flat_map}
use Rattle.class_model.specs.Frames.{stack_map_frame}
use Rattle.class_model.specs.CanonicalFrames.{rows}
use Rattle.frame_write.proofs.ByNumber.{rows_from}
use Rattle.frame_write.proofs.writing.put_rows.Given as goal

abbrev pub invariant-loop-number : goal.invariant-loop-number
invariant-loop-number l =
    l.out.items ++ rows_from l.constants l.starts l.first l.frames l.number l.previous
    ≡ l.initial.out.items ++ flat_map stack_map_frame (rows l.constants l.starts l.first None l.frames)
