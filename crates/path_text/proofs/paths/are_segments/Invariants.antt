use Rattle.std.proofs.Common.{◌≡◌, ◌≤◌, length}
use Rattle.path_text.specs.Path.{are_segments}
use Rattle.path_text.proofs.paths.are_segments.Given as goal

abbrev pub invariant-loop-at : goal.invariant-loop-at
invariant-loop-at l = record {
  same : are_segments l.rest ≡ are_segments l.text;
  shorter : length l.rest ≤ length l.text;
}

abbrev pub decreases-loop-at : goal.decreases-loop-at
decreases-loop-at l = length l.rest
