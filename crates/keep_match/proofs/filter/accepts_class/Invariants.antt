use Rattle.std.proofs.Common.{◌≡◌, drop}
use Rattle.keep_match.specs.Filters.{accepts}
use Rattle.keep_match.specs.Matches.{matches_class_name}
use Rattle.keep_match.proofs.Filtering.{decided}
use Rattle.keep_match.proofs.filter.accepts_class.Given as goal

abbrev pub invariant-loop-filter : goal.invariant-loop-filter
invariant-loop-filter l =
    decided (λ pattern. matches_class_name pattern l.name) l.accepted (drop l.filter-index l.filters)
    ≡ accepts (λ pattern. matches_class_name pattern l.name) l.filters
