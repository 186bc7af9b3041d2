use Rattle.std.proofs.Common.{drop}
use Rattle.type_verifier.specs.bodies.Marks.{MarksSoFar}
use Rattle.type_verifier.specs.bodies.Marking.{is_among}
use Rattle.type_verifier.proofs.places.mark_all.Given as goal

abbrev pub invariant-loop-to : goal.invariant-loop-to
invariant-loop-to l = MarksSoFar l.fn.entered l.entered (is_among l.places) (is_among (drop l.to-index l.places))
