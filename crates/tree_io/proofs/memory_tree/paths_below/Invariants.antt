use Rattle.std.proofs.Common.{◌≡◌, ◌++◌}
use Rattle.std.specs.BTreeMap.{keys}
use Rattle.tree_io.specs.Below.{paths_below}
use Rattle.tree_io.proofs.memory_tree.paths_below.Given as goal

abbrev pub invariant-loop-path : goal.invariant-loop-path
invariant-loop-path l = l.paths.items ++ paths_below l.dir l.path-iterator ≡ paths_below l.dir (keys l.files)
