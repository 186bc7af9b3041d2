use Rattle.std.proofs.Common.{◌≤◌, length}
use Rattle.type_verifier.specs.bodies.Marks.{AreNumbersFrom}
use Rattle.type_verifier.proofs.places.frame_numbers.Given as goal

abbrev pub invariant-loop-number : goal.invariant-loop-number
invariant-loop-number l = (l.number ≤ length l.frames) × AreNumbersFrom l.frames l.number l.count l.numbers.items

abbrev pub decreases-loop-number : goal.decreases-loop-number
decreases-loop-number l = l.number
