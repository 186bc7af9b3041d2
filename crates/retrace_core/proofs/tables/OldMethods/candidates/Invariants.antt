use Rattle.std.proofs.Common.{◌-◌, length, map}
use Rattle.retrace_core.proofs.Links.{Walked}
use Rattle.retrace_core.proofs.tables.OldMethods.candidates.Given as goal

abbrev pub invariant-loop-place : goal.invariant-loop-place
invariant-loop-place l = Walked l.methods l.name (map (λ m. m.now) l.found.items) l.place

abbrev pub decreases-loop-place : goal.decreases-loop-place
decreases-loop-place l = length l.methods - l.place
