use Rattle.std.proofs.Common.{◌≡◌, ◌<◌, ℕ, true}
use Rattle.std.specs.Prelude.{slice_index_or}
use Rattle.std.specs.Cmp.Lexicographic.{slice_cmp}
use Rattle.std.specs.Ordering.{nat_cmp, is_lt}
use Rattle.class_pool.specs.declared.fault.NamedClass.{NamedClass}
use Rattle.line_sets.proofs.lists.ascends.Given as goal

abbrev pub invariant-loop-number : goal.invariant-loop-number
invariant-loop-number l =
    (i j : ℕ) (d : NamedClass) → i < j → j < l.number
    → is_lt (slice_cmp nat_cmp (slice_index_or l.files i d).path (slice_index_or l.files j d).path) ≡ true
