use Rattle.class_pool.proofs.Packages.{IsLastPart}
use Rattle.method_places.proofs.places.package_of.Given as goal

abbrev pub invariant-loop-end : goal.invariant-loop-end
invariant-loop-end l = IsLastPart l.name l.end

abbrev pub decreases-loop-end : goal.decreases-loop-end
decreases-loop-end l = l.end
