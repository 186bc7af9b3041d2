use Rattle.std.proofs.Common.{◌≡◌, map, take}
use Rattle.retrace_core.specs.OldNames.{once}
use Rattle.retrace_core.proofs.candidates.each_once.Given as goal

abbrev pub invariant-loop-method : goal.invariant-loop-method
invariant-loop-method l = (l.seen ≡ once (map (λ m. m.now.old) (take l.method-index l.methods))) × (l.names ≡ l.seen)
