use Rattle.std.proofs.Common.{◌≡◌}
use denote.Text.{Utf8}
use denote.Shadow.{shadow}
use Rattle.keep_match.specs.TypePatterns.{without_pairs}
use Rattle.keep_match.proofs.type_pattern.without_pairs.Given as goal

abbrev pub invariant-loop-left : goal.invariant-loop-left
invariant-loop-left l = shadow (Utf8 l.front) × (without_pairs l.left l.front ≡ without_pairs l.count l.text)

abbrev pub decreases-loop-left : goal.decreases-loop-left
decreases-loop-left l = l.left
