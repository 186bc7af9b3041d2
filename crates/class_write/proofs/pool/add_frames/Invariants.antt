use Rattle.std.proofs.Common.{◌≡◌}
use Rattle.indexmap.specs.IndexSet.{insert_all}
use Rattle.class_model.specs.CanonicalPool.{same}
use Rattle.class_model.specs.CanonicalFrames.{frame_constants}
use Rattle.frame_write.proofs.ByNumber.{constants_from}
use Rattle.class_write.proofs.pool.add_frames.Given as goal

abbrev pub invariant-loop-number : goal.invariant-loop-number
invariant-loop-number l = insert_all same l.pool (constants_from l.first l.frames l.number)
    ≡ insert_all same l.initial.pool (frame_constants l.first l.frames)
