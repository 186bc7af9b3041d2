use Rattle.std.proofs.Common.{◌≡◌, ◌++◌, length}
use Rattle.std.specs.Vec.Iter.{into_iter_items, into_iter_len}
use Rattle.class_pool.specs.Faults.{classes_of}
use Rattle.class_pool.proofs.hierarchy.building.take_classes.Given as goal

abbrev pub invariant-loop-file : goal.invariant-loop-file
invariant-loop-file l =
    (l.classes ++ classes_of (into_iter_items l.file-iterator) ≡ classes_of l.fn.files)
    × (into_iter_len l.file-iterator ≡ length (into_iter_items l.file-iterator))
