use Rattle.std.proofs.Common.{◌≡◌, ◌+◌, ◌++◌, drop}
use Rattle.pass_driver.specs.Optimised.{method_spots}
use Rattle.pass_driver.proofs.spots.put_spots.Given as goal

abbrev pub invariant-loop-method : goal.invariant-loop-method
invariant-loop-method l = record {
  spots : l.spots ++ method_spots l.marks l.own l.item l.number (drop l.method-index l.methods)
      ≡ l.fn.spots ++ method_spots l.marks l.own l.first 0 l.methods;
  item : l.item ≡ l.first + l.method-index;
  number : l.number ≡ l.method-index;
}
