use Rattle.std.proofs.Common.{◌≤◌, drop, length}
use Rattle.new_names.specs.NewNames.{range_lines}
use Rattle.new_names.specs.bodies.Tables.{TellsRanges}
use Rattle.new_names.proofs.ranges.ranges_of.Given as goal

abbrev pub invariant-loop-left : goal.invariant-loop-left
invariant-loop-left l = record {
  within : l.left ≤ length l.lines;
  told : TellsRanges l.table (range_lines (drop l.left l.lines));
}

abbrev pub decreases-loop-left : goal.decreases-loop-left
decreases-loop-left l = l.left
