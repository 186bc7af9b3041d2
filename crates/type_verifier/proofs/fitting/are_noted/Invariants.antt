use Rattle.type_verifier.specs.bodies.Noting.{AreTold}
use Rattle.type_verifier.proofs.fitting.are_noted.Given as goal

abbrev pub invariant-loop-word : goal.invariant-loop-word
invariant-loop-word l = AreTold l.noted (record { from = l.fn.words.from; to = l.word }) l.types
