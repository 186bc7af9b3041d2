use Rattle.std.proofs.Common.{◌≡◌, map, take}
use Rattle.class_pool.specs.bodies.Notes.{program_of}
use Rattle.class_pool.proofs.set.notes.parents_of.Given as goal

abbrev pub invariant-loop-above : goal.invariant-loop-above
invariant-loop-above l = l.parents ≡ map program_of (take l.above-index l.superclasses)
