use Rattle.std.proofs.Common.{◌≡◌, ◌++◌, drop, None}
use Rattle.class_read.specs.bodies.Lines.{carried}
use Rattle.class_read.proofs.lines.carried.Given as goal

abbrev pub invariant-loop-next : goal.invariant-loop-next
invariant-loop-next l = l.full.items ++ carried l.line (drop l.next-index l.lines) ≡ carried None l.lines
