use Rattle.std.proofs.Common.{◌≡◌, ◌-◌, []}
use Rattle.format_reading.specs.Reader.{behind}
use Rattle.class_model.specs.ReadingMembers.{read_fields}
use Rattle.class_read.proofs.fields.read_fields.Given as goal

abbrev pub invariant-loop : goal.invariant-loop
invariant-loop l = behind l.fields (read_fields (l.count - l.counter) l.pool l.in_interface l.before l.cursor)
    ≡ read_fields l.count l.pool l.in_interface [] l.fn.cursor
