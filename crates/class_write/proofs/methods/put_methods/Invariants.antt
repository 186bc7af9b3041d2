use Rattle.std.proofs.Common.{◌≡◌, ◌++◌, map, take, drop}
use Rattle.std.specs.List.{flat_map}
use Rattle.class_model.specs.Structure.{member_info}
use Rattle.class_model.specs.CanonicalClass.{method_raw}
use Rattle.class_model.specs.WriteLimits.{first_of, body_fits}
use Rattle.class_write.proofs.methods.put_methods.Given as goal

abbrev pub invariant-loop-number : goal.invariant-loop-number
invariant-loop-number l =
    (l.out.items ≡ l.initial.out.items ++ flat_map member_info
    (map (method_raw l.pool l.class) (take l.number l.methods)))
    × (first_of (body_fits l.pool l.class) (drop l.number l.methods) ≡ first_of (body_fits l.pool l.class) l.methods)
