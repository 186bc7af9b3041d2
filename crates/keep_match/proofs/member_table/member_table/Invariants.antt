use Rattle.keep_match.specs.bodies.Tables.{AreFound}
use Rattle.keep_match.proofs.member_table.member_table.Given as goal

abbrev pub invariant-loop-number : goal.invariant-loop-number
invariant-loop-number l = AreFound l.number l.specs l.table
