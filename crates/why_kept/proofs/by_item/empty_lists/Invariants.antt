use Rattle.std.proofs.Common.{◌≡◌, ◌≤◌, ◌-◌, List, [], length}
use Rattle.std.specs.List.{All}
use Rattle.mark_core.specs.declared.system.Pair.{Pair}
use Rattle.why_kept.proofs.by_item.empty_lists.Given as goal

abbrev pub invariant-fill : goal.invariant-fill
invariant-fill l = record {
  few : length l.lists.items ≤ l.count;
  empty : All (λ (list : List Pair). list ≡ []) l.lists.items;
}

abbrev pub decreases-fill : goal.decreases-fill
decreases-fill l = l.count - length l.lists.items
