use Rattle.std.proofs.Common.{◌≡◌, Some, length}
use Rattle.keep_match.specs.bodies.Above.{AreKnown}
use Rattle.keep_match.proofs.above.know.Given as goal

abbrev pub invariant-loop-at : goal.invariant-loop-at
invariant-loop-at l = record {
  count : length l.known.items ≡ length l.set;
  known : AreKnown (Some l.pattern) l.set l.known.items;
}
