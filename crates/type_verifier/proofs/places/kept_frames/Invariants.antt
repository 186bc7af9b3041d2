use Rattle.std.proofs.Common.{◌≡◌, length}
use Rattle.type_verifier.specs.bodies.Marks.{AreKept}
use Rattle.type_verifier.proofs.places.kept_frames.Given as goal

abbrev pub invariant-loop-number : goal.invariant-loop-number
invariant-loop-number l = (length l.kept.items ≡ l.number) × AreKept l.code l.kept.items
