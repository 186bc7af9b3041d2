use Rattle.pair_edits.specs.Edits.{ClassEditIllegal}
use Rattle.pair_edits.proofs.Finding.{FoundFrom}
use Rattle.pair_edits.proofs.illegal.illegal_edit.Given as goal

abbrev pub invariant-loop-number : goal.invariant-loop-number
invariant-loop-number l = FoundFrom (ClassEditIllegal l.entries) l.input l.number
