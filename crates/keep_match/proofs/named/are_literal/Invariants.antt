use Rattle.keep_match.specs.bodies.Marks.{AreLiteral}
use Rattle.keep_match.proofs.named.are_literal.Given as goal

abbrev pub invariant-loop-filter : goal.invariant-loop-filter
invariant-loop-filter l = AreLiteral l.filter-index l.filters
