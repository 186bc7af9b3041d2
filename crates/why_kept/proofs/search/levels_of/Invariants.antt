use Rattle.std.proofs.Common.{◌≤◌, ◌+◌}
use Rattle.why_kept.specs.bodies.Searching.{IsOpen, left}
use Rattle.why_kept.proofs.search.levels_of.Given as goal

abbrev pub invariant-rounds : goal.invariant-rounds
invariant-rounds l = record {
  opened : IsOpen l.sys l.level l.search.found.items l.search;
  few : l.level + left l.sys l.search ≤ l.sys.n;
}

abbrev pub decreases-rounds : goal.decreases-rounds
decreases-rounds l = left l.sys l.search
