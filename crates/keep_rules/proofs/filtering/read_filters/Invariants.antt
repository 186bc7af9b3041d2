use Rattle.std.proofs.Common.{◌≡◌, length}
use Rattle.keep_rules.specs.Reader.{behind}
use Rattle.keep_rules.specs.Filtering.{filters, filtered_by}
use Rattle.keep_rules.proofs.filtering.read_filters.Given as goal

abbrev pub invariant-loop-filters : goal.invariant-loop-filters
invariant-loop-filters l = behind l.filters (filters (filtered_by l.filtered) l.words)
    ≡ filters (filtered_by l.filtered) l.fn.words

abbrev pub decreases-loop-filters : goal.decreases-loop-filters
decreases-loop-filters l = length l.words.words
