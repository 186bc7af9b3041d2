use Rattle.std.proofs.Common.{◌≡◌, ◌+◌, ◌++◌, drop, length}
use Rattle.class_pool.specs.Count.{item_count}
use Rattle.pass_driver.specs.Optimised.{class_spots, spots}
use Rattle.pass_driver.proofs.spots.spots_of.Given as goal

abbrev pub invariant-loop-own : goal.invariant-loop-own
invariant-loop-own l = record {
  spots : l.spots ++ class_spots l.marks l.own l.item (drop l.own l.set) ≡ spots l.marks l.set;
  item : l.item + item_count (drop l.own l.set) ≡ length l.marks;
}
