use Rattle.std.proofs.Common.{◌≤◌, take, Ok}
use Rattle.tree_io.specs.Runs.{AddsCalls}
use Rattle.class_files.specs.Output.{Writes}
use Rattle.class_files.proofs.output.write_files.Given as goal

abbrev pub invariant-loop-file : goal.invariant-loop-file
invariant-loop-file g l = record {
  later : g.T.Tree.faults l.fn.tree ≤ g.T.Tree.faults l.tree;
  written : AddsCalls (g.T.Tree.log l.fn.tree) (g.T.Tree.log l.tree) (g.T.Tree.files l.fn.tree) (g.T.Tree.files l.tree)
      (Writes (Ok tt) (take l.file-index l.files));
}
