use Rattle.std.proofs.Common.{◌≤◌, ℕ, List, ◌++◌, drop, length}
use Rattle.new_names.specs.NewNames.{NameAndType, method_lines}
use Rattle.new_names.specs.bodies.Tables.{TellsMembers}
use Rattle.new_names.proofs.members.put_methods.Given as goal

abbrev pub invariant-loop-left : goal.invariant-loop-left
invariant-loop-left l = record {
  within : l.left ≤ length l.lines;
  told : (rest : List (NameAndType × List ℕ)) → TellsMembers l.fn.table rest
      → TellsMembers l.table (method_lines (drop l.left l.lines) ++ rest);
}

abbrev pub decreases-loop-left : goal.decreases-loop-left
decreases-loop-left l = l.left
