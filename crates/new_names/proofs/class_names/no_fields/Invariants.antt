use Rattle.std.proofs.Common.{◌≡◌, None, map, take}
use Rattle.new_names.proofs.class_names.no_fields.Given as goal

abbrev pub invariant-loop-field : goal.invariant-loop-field
invariant-loop-field l = l.names ≡ map (λ x. None) (take l.field-index l.fields)
