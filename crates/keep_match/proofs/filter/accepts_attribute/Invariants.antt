use Rattle.std.proofs.Common.{◌≡◌, drop}
use Rattle.keep_match.specs.Filters.{accepts_attribute}
use Rattle.keep_match.specs.Wildcards.{wild}
use Rattle.keep_match.proofs.Filtering.{decided}
use Rattle.keep_match.proofs.filter.accepts_attribute.Given as goal

abbrev pub invariant-loop-filter : goal.invariant-loop-filter
invariant-loop-filter l =
    decided (λ pattern. wild pattern l.name) l.accepted (drop l.filter-index l.filters)
    ≡ accepts_attribute l.filters l.name
