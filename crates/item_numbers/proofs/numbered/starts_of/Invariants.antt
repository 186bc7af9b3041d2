use Rattle.std.proofs.Common.{◌≡◌, ◌≤◌, ℕ, ◌+◌, length, get_or}
use Rattle.class_pool.specs.Items.{class_item}
use Rattle.item_numbers.proofs.numbered.starts_of.Given as goal

abbrev pub invariant-loop-number : goal.invariant-loop-number
invariant-loop-number l = record {
  next : l.next ≡ class_item l.set l.number;
  count : length l.starts ≡ l.number + 1;
  each : (n : ℕ) → n ≤ l.number → get_or l.starts n 0 ≡ class_item l.set n;
}
