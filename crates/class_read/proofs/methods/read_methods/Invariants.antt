use Rattle.std.proofs.Common.{◌≡◌, ◌-◌, []}
use Rattle.class_model.specs.ReadingMembers.{read_methods}
use Rattle.class_read.proofs.MethodLoop.{both}
use Rattle.class_read.proofs.methods.read_methods.Given as goal

abbrev pub invariant-loop : goal.invariant-loop
invariant-loop l = both (l.methods, l.left_out)
    (read_methods (l.count - l.counter) l.pool l.in_interface l.class l.before l.cursor)
    ≡ read_methods l.count l.pool l.in_interface l.class [] l.fn.cursor
