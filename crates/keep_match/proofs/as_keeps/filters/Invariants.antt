use Rattle.std.proofs.Common.{◌≡◌, take}
use Rattle.keep_match.proofs.as_keeps.filters.Given as goal

abbrev pub invariant-loop-filter : goal.invariant-loop-filter
invariant-loop-filter l = l.copies ≡ take l.filter-index l.filters
