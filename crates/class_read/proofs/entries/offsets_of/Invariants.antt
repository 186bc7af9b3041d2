use Rattle.std.proofs.Common.{◌≡◌, ◌++◌, drop, map}
use Rattle.class_model.specs.ReadingPool.{Slot}
use Rattle.class_read.specs.bodies.Entries.{offsets_of}
use Rattle.class_read.proofs.entries.offsets_of.Given as goal

abbrev pub invariant-loop-slot : goal.invariant-loop-slot
invariant-loop-slot l = l.offsets ++ map (λ (s : Slot). s.at) (drop l.slot-index l.slots) ≡ offsets_of l.slots
