use Rattle.std.proofs.Common.{drop}
use Rattle.type_verifier.specs.bodies.Marks.{MarksSoFar}
use Rattle.type_verifier.specs.bodies.Marking.{is_begun}
use Rattle.type_verifier.proofs.places.mark_handlers.Given as goal

abbrev pub invariant-loop-handler : goal.invariant-loop-handler
invariant-loop-handler l = MarksSoFar l.fn.entered l.entered (is_begun l.handlers)
    (is_begun (drop l.handler-index l.handlers))
