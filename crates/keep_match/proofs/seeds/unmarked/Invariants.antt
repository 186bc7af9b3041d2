use Rattle.keep_match.proofs.MarkLaw.{AreUnmarked}
use Rattle.keep_match.proofs.seeds.unmarked.Given as goal

abbrev pub invariant-loop-number : goal.invariant-loop-number
invariant-loop-number l = AreUnmarked l.set l.number l.rows.items
