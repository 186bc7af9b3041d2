use Rattle.std.proofs.Common.{◌≡◌, map, take}
use Rattle.class_pool.specs.bodies.Notes.{numbers_of}
use Rattle.class_pool.proofs.set.notes.numbers_of.Given as goal

abbrev pub invariant-loop-index : goal.invariant-loop-index
invariant-loop-index l = l.numbers ≡ map (numbers_of l.keys) (take l.index-index l.members)
