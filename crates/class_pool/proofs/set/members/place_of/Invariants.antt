use Rattle.std.proofs.Common.{◌≤◌, ◌-◌}
use Rattle.class_pool.specs.bodies.ByName.{IsPlace}
use Rattle.class_pool.proofs.set.members.place_of.Given as goal

abbrev pub invariant-loop-low : goal.invariant-loop-low
invariant-loop-low l = (l.low ≤ l.high) × IsPlace l.keys l.name l.ty l.low l.high

abbrev pub decreases-loop-low : goal.decreases-loop-low
decreases-loop-low l = l.high - l.low
