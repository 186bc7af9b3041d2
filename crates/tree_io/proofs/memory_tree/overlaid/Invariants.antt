use Rattle.std.proofs.Common.{◌≡◌}
use Rattle.std.specs.FinMap.{empty}
use Rattle.std.specs.Vec.Iter.{into_iter_items}
use Rattle.tree_io.specs.Memory.{files_of_entries, overlaid}
use Rattle.tree_io.proofs.memory_tree.overlaid.Given as goal

abbrev pub invariant-loop-file : goal.invariant-loop-file
invariant-loop-file l = overlaid (files_of_entries l.kept.entries) (into_iter_items l.file-iterator)
    ≡ overlaid empty l.fn.files
