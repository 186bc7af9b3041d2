use Rattle.std.proofs.Common.{◌≡◌, ◌+◌, ◌++◌, drop, length, map}
use Rattle.class_run.specs.Started.{started, started_from}
use Rattle.run_heap.specs.Worlds.{object_of}
use Rattle.run_entry.proofs.arguments.started.Given as goal

abbrev pub invariant-loop-arg : goal.invariant-loop-arg
invariant-loop-arg l = record {
  heap : map object_of l.heap.items ++ (started_from (1 + length l.heap.items) (drop l.arg-index l.args)).heap
      ≡ (started l.args).heap;
  args : l.values ++ (started_from (1 + length l.heap.items) (drop l.arg-index l.args)).args ≡ (started l.args).args;
}
