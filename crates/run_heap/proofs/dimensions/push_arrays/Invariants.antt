use Rattle.std.proofs.Common.{◌≡◌, ◌-◌, ◌++◌, drop, length, map}
use Rattle.std.specs.Int.RustNames.{unsigned_abs}
use Rattle.jvm_model.specs.Arrays.{arrays_from}
use Rattle.run_heap.specs.Worlds.{object_of}
use Rattle.run_heap.proofs.dimensions.push_arrays.Given as goal

abbrev pub invariant-loop-at : goal.invariant-loop-at
invariant-loop-at l = map object_of l.heap.items
    ++ arrays_from (length l.heap.items) l.level.count l.level.ty (map unsigned_abs (drop l.at l.sizes))
    ≡ map object_of l.fn.heap.items ++ arrays_from (length l.fn.heap.items) 1 l.ty (map unsigned_abs l.sizes)

abbrev pub decreases-loop-at : goal.decreases-loop-at
decreases-loop-at l = length l.sizes - l.at
