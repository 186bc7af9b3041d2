use Rattle.std.proofs.Common.{◌≡◌, ◌≤◌, ◌-◌, drop, length}
use Rattle.jvm_model.specs.Library.{comparison}
use Rattle.run_library.proofs.units.comparison.Given as goal

abbrev pub invariant-loop-at : goal.invariant-loop-at
invariant-loop-at l = record {
  left : l.at ≤ length l.left;
  right : l.at ≤ length l.right;
  same : comparison (drop l.at l.left) (drop l.at l.right) ≡ comparison l.left l.right;
}

abbrev pub decreases-loop-at : goal.decreases-loop-at
decreases-loop-at l = length l.left - l.at
