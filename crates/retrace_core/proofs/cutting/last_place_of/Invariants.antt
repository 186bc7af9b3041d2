use Rattle.std.proofs.Common.{◌≡◌, ◌<◌, length, drop, IfSome}
use Rattle.retrace_core.specs.Cut.{last_place_of}
use Rattle.retrace_core.proofs.LastPlace.{later}
use Rattle.retrace_core.proofs.cutting.last_place_of.Given as goal

abbrev pub invariant-loop-at : goal.invariant-loop-at
invariant-loop-at l = record {
  found : later l.at l.found (last_place_of l.fn.byte (drop l.at l.fn.text)) ≡ last_place_of l.fn.byte l.fn.text;
  within : IfSome l.found (λ n. n < length l.fn.text);
}
