use Rattle.std.proofs.Common.{◌≡◌, ◌-◌}
use Rattle.class_model.specs.ReadingAttributes.{attributes}
use Rattle.class_model.specs.ReadingClass.{known_of_class, no_class_attribute}
use Rattle.class_read.proofs.class_attributes.attributes.Given as goal

abbrev pub invariant-loop : goal.invariant-loop
invariant-loop l = attributes (l.count - l.counter) l.pool (known_of_class l.pool) l.seen l.cursor
    ≡ attributes l.count l.pool (known_of_class l.pool) no_class_attribute l.fn.cursor
