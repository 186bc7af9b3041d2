use Rattle.std.proofs.Common.{◌≡◌, ◌+◌, ◌*◌, ◌++◌, length, map}
use Rattle.std.specs.List.{range_with_len}
use Rattle.jvm_model.specs.Arrays.{references_from}
use Rattle.jvm_model.specs.Heap.{Array}
use Rattle.run_heap.specs.Worlds.{object_of}
use Rattle.run_heap.proofs.dimensions.push_level.Given as goal

abbrev pub invariant-loop : goal.invariant-loop
invariant-loop l = record {
  first : l.first ≡ length l.fn.heap.items + l.count + l.counter * l.size;
  same : map object_of l.heap.items ≡ map object_of l.fn.heap.items
      ++ map (λ i. Array l.component (references_from (length l.fn.heap.items + l.count + i * l.size) l.size))
      (range_with_len 0 l.counter);
}
