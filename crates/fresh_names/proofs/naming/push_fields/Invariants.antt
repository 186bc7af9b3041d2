use Rattle.std.proofs.Common.{◌≡◌, ◌++◌, map, take}
use Rattle.class_model.specs.declared.class.Field.{Field}
use Rattle.fresh_names.proofs.naming.push_fields.Given as goal

abbrev pub invariant-loop-field : goal.invariant-loop-field
invariant-loop-field l = l.names ≡ l.fn.names ++ map (λ (f : Field). f.name) (take l.field-index l.fields)
