use Rattle.std.proofs.Common.{◌≡◌, ◌-◌}
use Rattle.class_model.specs.ReadingAttributes.{attributes}
use Rattle.class_model.specs.ReadingMembers.{no_method_attribute}
use Rattle.class_read.specs.bodies.Methods.{known_of}
use Rattle.class_read.proofs.methods.attributes.Given as goal

abbrev pub invariant-loop : goal.invariant-loop
invariant-loop l = attributes (l.count - l.counter) l.pool (known_of l.pool l.class l.head) l.seen l.cursor
    ≡ attributes l.count l.pool (known_of l.pool l.class l.head) no_method_attribute l.fn.cursor
