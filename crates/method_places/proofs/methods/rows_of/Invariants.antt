use Rattle.std.proofs.Common.{◌≡◌, ◌<◌, ℕ, [], get_or, length}
use Rattle.class_pool.specs.Items.{class_item}
use Rattle.method_places.specs.bodies.Alike.{class_rows, number_in}
use Rattle.method_places.proofs.methods.rows_of.Given as goal

abbrev pub invariant-loop-number : goal.invariant-loop-number
invariant-loop-number l = record {
  item : l.item ≡ class_item l.alike.set.now l.number;
  count : length l.rows ≡ l.number;
  each : (n : ℕ) → n < l.number → get_or l.rows n []
      ≡ class_rows l.alike.set.now (number_in l.alike.keys.items l.alike.groups.items) n;
}
