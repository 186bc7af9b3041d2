use Rattle.std.proofs.Common.{◌≡◌, ◌-◌}
use Rattle.class_model.specs.Flags.{is_static}
use Rattle.class_model.specs.ReadingAttributes.{attributes}
use Rattle.class_model.specs.ReadingMembers.{known_of_field, no_field_attribute}
use Rattle.class_read.proofs.fields.attributes.Given as goal

abbrev pub invariant-loop : goal.invariant-loop
invariant-loop l = attributes (l.count - l.counter) l.pool
    (known_of_field l.pool (is_static l.flags) l.ty) l.seen l.cursor
    ≡ attributes l.count l.pool (known_of_field l.pool (is_static l.flags) l.ty) no_field_attribute l.fn.cursor
