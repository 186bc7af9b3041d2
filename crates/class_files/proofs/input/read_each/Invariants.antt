use Rattle.std.proofs.Common.{◌≡◌, ◌≤◌, ◌+◌, ◌++◌, [], map, Some}
use Rattle.std.specs.Vec.Iter.{into_iter_items}
use Rattle.tree_io.specs.Runs.{AddsCalls, Sees}
use Rattle.class_files.specs.Input.{AreThere, files_in, total}
use Rattle.class_files.proofs.input.read_each.Given as goal

abbrev pub invariant-loop-path : goal.invariant-loop-path
invariant-loop-path g l = record {
  files : g.T.Tree.files l.tree ≡ g.T.Tree.files l.fn.tree;
  later : g.T.Tree.faults l.fn.tree ≤ g.T.Tree.faults l.tree;
  room : l.room + total l.files ≡ 67108864;
  paths : map (λ f. f.path) l.files ++ into_iter_items l.path-iterator ≡ l.fn.paths;
  seen : AddsCalls (g.T.Tree.log l.fn.tree) (g.T.Tree.log l.tree) (g.T.Tree.files l.fn.tree) (g.T.Tree.files l.tree)
      (Sees (Some []) (λ fs. AreThere fs l.directory l.fn.paths
      → (l.files ++ files_in fs l.directory (into_iter_items l.path-iterator) ≡ files_in fs l.directory l.fn.paths)
      × AreThere fs l.directory (into_iter_items l.path-iterator)));
}
