use Rattle.std.proofs.Common.{◌≡◌, ◌++◌}
use Rattle.std.specs.Vec.Iter.{into_iter_items}
use Rattle.keep_rules.proofs.draft.append.Given as goal

abbrev pub invariant-loop-filter : goal.invariant-loop-filter
invariant-loop-filter l = l.filters ++ into_iter_items l.filter-iterator ≡ l.fn.filters ++ l.fn.others
