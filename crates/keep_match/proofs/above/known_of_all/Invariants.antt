use Rattle.std.proofs.Common.{◌≡◌, Some, length}
use Rattle.keep_match.specs.bodies.Above.{AreKnown}
use Rattle.keep_match.proofs.above.known_of_all.Given as goal

abbrev pub invariant-loop-number : goal.invariant-loop-number
invariant-loop-number l = record {
  count : length l.known.items ≡ length l.set;
  known : AreKnown (Some l.pattern) l.set l.known.items;
}
