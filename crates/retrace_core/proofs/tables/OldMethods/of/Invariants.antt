use Rattle.std.proofs.Common.{◌≤◌, length}
use Rattle.retrace_core.specs.bodies.Linked.{AreLinked}
use Rattle.retrace_core.proofs.tables.OldMethods.of.Given as goal

abbrev pub invariant-loop-left : goal.invariant-loop-left
invariant-loop-left l = (l.left ≤ length l.methods) × AreLinked l.methods l.left l.firsts l.nexts.items

abbrev pub decreases-loop-left : goal.decreases-loop-left
decreases-loop-left l = l.left
