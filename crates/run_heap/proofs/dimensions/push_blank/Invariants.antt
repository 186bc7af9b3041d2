use Rattle.std.proofs.Common.{◌≡◌, ◌++◌, map, replicate}
use Rattle.jvm_model.specs.Arrays.{blank_array}
use Rattle.run_heap.specs.Worlds.{object_of}
use Rattle.run_heap.proofs.dimensions.push_blank.Given as goal

abbrev pub invariant-loop : goal.invariant-loop
invariant-loop l = map object_of l.heap.items
    ≡ map object_of l.fn.heap.items ++ replicate l.counter (blank_array l.component l.size)
