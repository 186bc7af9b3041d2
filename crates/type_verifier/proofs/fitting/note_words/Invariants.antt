use Rattle.type_verifier.specs.bodies.Noting.{Notes}
use Rattle.type_verifier.proofs.fitting.note_words.Given as goal

abbrev pub invariant-loop-word : goal.invariant-loop-word
invariant-loop-word l = Notes l.fn.noted.items l.noted.items l.types
