use Rattle.std.proofs.Common.{drop}
use Rattle.type_verifier.specs.bodies.Marks.{MarksSoFar}
use Rattle.type_verifier.specs.bodies.Marking.{is_case}
use Rattle.type_verifier.proofs.places.mark_cases.Given as goal

abbrev pub invariant-loop-case : goal.invariant-loop-case
invariant-loop-case l = MarksSoFar l.fn.entered l.entered (is_case l.cases) (is_case (drop l.case-index l.cases))
