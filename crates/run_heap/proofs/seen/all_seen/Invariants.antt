use Rattle.std.proofs.Common.{◌≡◌, List, ℕ, drop, map}
use Rattle.jvm_model.specs.Calls.{all_seen}
use Rattle.jvm_model.specs.Heap.{Init}
use Rattle.run_heap.proofs.Seeing.{behind}
use Rattle.run_heap.specs.Worlds.{world_of}
use Rattle.run_library.specs.Acts.{operand_of}
use Rattle.run_heap.proofs.seen.all_seen.Given as goal

abbrev pub invariant-loop-operand : goal.invariant-loop-operand
invariant-loop-operand l = (inits : List ℕ → Init)
    → behind (map operand_of l.told.items) (all_seen (world_of inits l.world) (drop l.operand-index l.operands))
    ≡ all_seen (world_of inits l.world) l.operands
