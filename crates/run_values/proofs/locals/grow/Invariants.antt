use Rattle.std.proofs.Common.{◌≡◌, ◌-◌, ◌≤◌, length}
use Rattle.run_values.specs.Slots.{slots_of}
use Rattle.run_values.proofs.locals.grow.Given as goal

abbrev pub invariant-loop-slots : goal.invariant-loop-slots
invariant-loop-slots l = record {
  within : length l.slots.items ≤ l.len;
  same : slots_of l.slots.items ≡ slots_of l.fn.slots.items;
}

abbrev pub decreases-loop-slots : goal.decreases-loop-slots
decreases-loop-slots l = l.len - length l.slots.items
