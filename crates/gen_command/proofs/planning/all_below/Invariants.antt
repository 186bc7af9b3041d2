use Rattle.std.proofs.Common.{◌≡◌, ◌++◌, map}
use Rattle.std.specs.Vec.Iter.{into_iter_items}
use Rattle.gen_command.specs.Due.{below}
use Rattle.gen_command.proofs.planning.all_below.Given as goal

abbrev pub invariant-loop-file : goal.invariant-loop-file
invariant-loop-file l =
    l.all ++ map (below l.directory) (into_iter_items l.file-iterator) ≡ map (below l.directory) l.fn.files
