use Rattle.class_pool.proofs.Packages.{IsLastPart}
use Rattle.pair_clauses.proofs.fixed.package_of.Given as goal

abbrev pub invariant-loop-end : goal.invariant-loop-end
invariant-loop-end l = IsLastPart l.name l.end

abbrev pub decreases-loop-end : goal.decreases-loop-end
decreases-loop-end l = l.end
