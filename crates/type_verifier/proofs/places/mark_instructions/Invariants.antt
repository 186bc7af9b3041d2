use Rattle.std.proofs.Common.{drop}
use Rattle.type_verifier.specs.bodies.Marks.{MarksSoFar}
use Rattle.type_verifier.specs.bodies.Marking.{is_target}
use Rattle.type_verifier.proofs.places.mark_instructions.Given as goal

abbrev pub invariant-loop-i : goal.invariant-loop-i
invariant-loop-i l = MarksSoFar l.fn.entered l.entered (is_target l.ins) (is_target (drop l.i-index l.ins))
