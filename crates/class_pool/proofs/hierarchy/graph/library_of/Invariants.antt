use Rattle.std.proofs.Common.{◌≡◌, take}
use Rattle.std.specs.List.{filter_map}
use Rattle.lib_table.specs.Lookups.{class_named}
use Rattle.class_pool.proofs.hierarchy.graph.library_of.Given as goal

abbrev pub invariant-loop-name : goal.invariant-loop-name
invariant-loop-name l = l.ids ≡ filter_map (λ name. class_named name.now) (take l.name-index l.name-items)
