use Rattle.std.proofs.Common.{◌≤◌, drop, length}
use Rattle.pair_edits.specs.bodies.Tables.{TellsEntries}
use Rattle.pair_edits.proofs.entries.table_of.Given as goal

abbrev pub invariant-loop-left : goal.invariant-loop-left
invariant-loop-left l = record {
  within : l.left ≤ length l.entries;
  told : TellsEntries l.table (drop l.left l.entries);
}

abbrev pub decreases-loop-left : goal.decreases-loop-left
decreases-loop-left l = l.left
