use Rattle.std.proofs.Common.{◌≡◌, ◌<◌, take}
use Rattle.class_pool.specs.Count.{item_count}
use Rattle.class_pool.specs.Faults.{classes_of}
use Rattle.line_sets.proofs.lists.are_few.Given as goal

abbrev pub invariant-loop-file : goal.invariant-loop-file
invariant-loop-file l = (l.count ≡ item_count (classes_of (take l.file-index l.files))) × (l.count < 4294967295)
