use Rattle.std.proofs.Common.{◌≡◌, drop}
use Rattle.keep_match.specs.TypePatterns.{match_each}
use Rattle.keep_match.proofs.type_pattern.match_each.Given as goal

abbrev pub invariant-loop-at : goal.invariant-loop-at
invariant-loop-at l = match_each (drop l.at l.patterns) (drop l.at l.types) ≡ match_each l.patterns l.types
