use Rattle.std.proofs.Common.{◌≡◌, ◌++◌, drop, map}
use Rattle.set_meanings.specs.bodies.FieldKeys.{field_key}
use Rattle.set_meanings.proofs.fields.keys_of.Given as goal

abbrev pub invariant-loop-field : goal.invariant-loop-field
invariant-loop-field l = l.keys ++ map (field_key l.name) (drop l.field-index l.class.fields)
    ≡ map (field_key l.name) l.class.fields
