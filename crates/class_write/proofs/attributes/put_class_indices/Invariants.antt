use Rattle.std.proofs.Common.{◌≡◌, ◌++◌, ℕ, List, take}
use Rattle.std.specs.Int.{w16, to_be_bytes}
use Rattle.std.specs.List.{flat_map}
use Rattle.class_model.specs.CanonicalClass.{class_index}
use Rattle.class_write.proofs.attributes.put_class_indices.Given as goal

abbrev pub invariant-loop-name : goal.invariant-loop-name
invariant-loop-name l = l.out.items
    ≡ l.initial.out.items ++ flat_map (λ (name : List ℕ). to_be_bytes w16 (class_index l.pool name))
    (take l.name-index l.names)
