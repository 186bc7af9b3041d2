use Rattle.std.proofs.Common.{◌≡◌, map, take}
use Rattle.new_names.specs.NewNames.{field_in}
use Rattle.new_names.proofs.class_names.fields_by.Given as goal

abbrev pub invariant-loop-field : goal.invariant-loop-field
invariant-loop-field l = l.names ≡ map (field_in l.line) (take l.field-index l.fields)
