use Rattle.std.proofs.Common.{◌≡◌, ◌≤◌, ◌-◌, length, take}
use Rattle.std.specs.List.{cons_option}
use Rattle.lib_table.specs.Lookups.{interfaces_of, super_of}
use Rattle.class_pool.proofs.hierarchy.graph.above_library.Given as goal

abbrev pub invariant-loop-interface : goal.invariant-loop-interface
invariant-loop-interface l = (l.numbers ≡ cons_option (super_of l.id) (take l.k (interfaces_of l.id)))
    × (l.k ≤ length (interfaces_of l.id))

abbrev pub decreases-loop-interface : goal.decreases-loop-interface
decreases-loop-interface l = length (interfaces_of l.id) - l.k
