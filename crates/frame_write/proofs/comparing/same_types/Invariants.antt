use Rattle.std.proofs.Common.{◌≡◌, drop}
use Rattle.class_model.specs.CanonicalFrames.{same_types}
use Rattle.frame_write.proofs.comparing.same_types.Given as goal

abbrev pub invariant-loop-index : goal.invariant-loop-index
invariant-loop-index l = same_types (drop l.index l.one) (drop l.index l.other) ≡ same_types l.one l.other
