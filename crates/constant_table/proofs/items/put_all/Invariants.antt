use Rattle.std.proofs.Common.{◌≡◌, ◌++◌, map, take, drop, Ok}
use Rattle.std.specs.List.{flat_map}
use Rattle.class_model.specs.ConstantPool.{cp_info}
use Rattle.class_model.specs.CanonicalPool.{info_of}
use Rattle.class_model.specs.WriteLimits.{first_of, text_fits}
use Rattle.constant_table.specs.bodies.Keys.{constant_of, constants_of}
use Rattle.constant_table.proofs.items.put_all.Given as goal

abbrev pub invariant-loop-key : goal.invariant-loop-key
invariant-loop-key l =
    (l.out.items ≡ l.initial.out.items ++ flat_map cp_info (flat_map
    (λ key. info_of (constants_of l.texts l.keys) (constant_of l.texts key)) (take l.key-index l.keys)))
    × (first_of text_fits (map (constant_of l.texts) (drop l.key-index l.keys)) ≡ Ok tt)
