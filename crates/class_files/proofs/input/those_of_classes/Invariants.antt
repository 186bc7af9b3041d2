use Rattle.std.proofs.Common.{◌≡◌, ◌++◌, length}
use Rattle.std.specs.List.{filter}
use Rattle.std.specs.Vec.Iter.{into_iter_items, into_iter_len}
use Rattle.class_files.specs.Input.{is_class_path}
use Rattle.class_files.proofs.input.those_of_classes.Given as goal

abbrev pub invariant-loop-path : goal.invariant-loop-path
invariant-loop-path l =
    (l.kept ++ filter is_class_path (into_iter_items l.path-iterator) ≡ filter is_class_path l.fn.paths)
    × (into_iter_len l.path-iterator ≡ length (into_iter_items l.path-iterator))
