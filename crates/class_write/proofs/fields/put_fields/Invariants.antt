use Rattle.std.proofs.Common.{◌≡◌, ◌++◌, map, take}
use Rattle.std.specs.List.{flat_map}
use Rattle.class_model.specs.Structure.{member_info}
use Rattle.class_model.specs.CanonicalClass.{field_raw}
use Rattle.class_write.proofs.fields.put_fields.Given as goal

abbrev pub invariant-loop-field : goal.invariant-loop-field
invariant-loop-field l = l.out.items
    ≡ l.initial.out.items ++ flat_map member_info (map (field_raw l.pool) (take l.field-index l.fields))
