use Rattle.std.proofs.Common.{◌≡◌, ◌++◌, map, length}
use Rattle.std.specs.Vec.Iter.{into_iter_items, into_iter_len}
use Rattle.class_model.specs.ReadingPool.{Slot, entries_of}
use Rattle.class_read.proofs.entries.entries_of.Given as goal

abbrev pub invariant-loop-slot : goal.invariant-loop-slot
invariant-loop-slot l = (l.entries ++ map (λ (s : Slot). s.entry) (into_iter_items l.slot-iterator)
    ≡ entries_of l.fn.slots) × (into_iter_len l.slot-iterator ≡ length (into_iter_items l.slot-iterator))
