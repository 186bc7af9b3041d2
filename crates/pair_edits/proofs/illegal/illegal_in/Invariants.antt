use Rattle.class_model.specs.declared.class.Method.{Method}
use Rattle.pair_clauses.specs.Finding.{FindsUnless}
use Rattle.pair_clauses.specs.Places.{place_of_method}
use Rattle.pair_edits.specs.Edits.{AreLegalOn}
use Rattle.pair_edits.specs.Entries.{steps_of}
use Rattle.pair_edits.proofs.Finding.{FoundFrom}
use Rattle.pair_edits.proofs.illegal.illegal_in.Given as goal

abbrev pub invariant-loop-method : goal.invariant-loop-method
invariant-loop-method l = FoundFrom
    (λ (m : Method). FindsUnless (AreLegalOn (steps_of l.entries l.class m) m.code) (place_of_method l.class m))
    l.class.methods l.method-index
