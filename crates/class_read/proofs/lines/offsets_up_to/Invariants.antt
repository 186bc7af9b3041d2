use Rattle.std.proofs.Common.{◌≡◌, drop}
use Rattle.std.specs.Prelude.{fold}
use Rattle.class_read.specs.bodies.Lines.{past, offsets_up_to}
use Rattle.class_read.proofs.lines.offsets_up_to.Given as goal

abbrev pub invariant-loop-start : goal.invariant-loop-start
invariant-loop-start l = fold past l.count (drop l.start-index l.starts) ≡ offsets_up_to l.starts
