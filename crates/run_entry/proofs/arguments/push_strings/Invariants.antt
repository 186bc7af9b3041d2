use Rattle.std.proofs.Common.{◌≡◌, ◌+◌, ◌++◌, drop, length, map}
use Rattle.std.specs.List.{range_with_len}
use Rattle.jvm_model.specs.Heap.{Str}
use Rattle.jvm_model.specs.Value.{Ref}
use Rattle.run_heap.specs.Worlds.{object_of}
use Rattle.run_entry.proofs.arguments.push_strings.Given as goal

abbrev pub invariant-loop-text : goal.invariant-loop-text
invariant-loop-text l = record {
  heap : map object_of l.heap.items ++ map Str (drop l.text-index l.texts)
      ≡ map object_of l.fn.heap.items ++ map Str l.texts;
  values : l.values.items ++ map Ref (range_with_len (1 + length l.heap.items) (length (drop l.text-index l.texts)))
      ≡ map Ref (range_with_len (1 + length l.fn.heap.items) (length l.texts));
}
