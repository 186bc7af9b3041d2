use Rattle.std.proofs.Common.{◌≡◌, ◌≤◌, ◌-◌, length, take, Some}
use Rattle.std.specs.List.{filter_map}
use Rattle.lib_table.specs.Lookups.{interfaces_of}
use Rattle.class_pool.specs.declared.id.ClassId.TheVariants.{Lib}
use Rattle.class_pool.proofs.hierarchy.superinterfaces.library_interfaces.Given as goal

abbrev pub invariant-loop-interface : goal.invariant-loop-interface
invariant-loop-interface l = (l.ids ≡ filter_map (λ i. Some (Lib i)) (take l.k (interfaces_of l.id)))
    × (l.k ≤ length (interfaces_of l.id))

abbrev pub decreases-loop-interface : goal.decreases-loop-interface
decreases-loop-interface l = length (interfaces_of l.id) - l.k
