use Rattle.std.proofs.Common.{◌≡◌, map, take}
use Rattle.std.specs.List.{enumerate_from, filter, filter_map}
use Rattle.class_pool.specs.Found.{is_instance_method, rows_in}
use Rattle.class_pool.specs.declared.id.ClassId.TheVariants.{Prog}
use Rattle.method_places.specs.bodies.Alike.{number_in, row_of}
use Rattle.method_places.proofs.methods.class_rows.Given as goal

abbrev pub invariant-loop-index : goal.invariant-loop-index
invariant-loop-index l = l.rows ≡ filter_map
    (row_of l.alike.set.now (number_in l.alike.keys.items l.alike.groups.items))
    (filter (is_instance_method l.alike.set.now)
    (map (λ p. record { class = Prog l.number; index = p.0 })
    (enumerate_from 0 (take l.index (rows_in l.alike.set.now (Prog l.number))))))
