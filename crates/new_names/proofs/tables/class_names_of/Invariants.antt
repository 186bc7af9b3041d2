use Rattle.std.proofs.Common.{◌≤◌, drop, length}
use Rattle.new_names.specs.NewNames.{class_names}
use Rattle.new_names.specs.bodies.Tables.{TellsNames}
use Rattle.new_names.proofs.tables.class_names_of.Given as goal

abbrev pub invariant-loop-left : goal.invariant-loop-left
invariant-loop-left l = record {
  within : l.left ≤ length l.lines;
  told : TellsNames l.table (class_names (drop l.left l.lines));
}

abbrev pub decreases-loop-left : goal.decreases-loop-left
decreases-loop-left l = l.left
