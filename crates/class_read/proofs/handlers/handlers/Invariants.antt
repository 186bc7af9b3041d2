use Rattle.std.proofs.Common.{◌≡◌, ◌-◌}
use Rattle.format_reading.specs.Reader.{many, behind}
use Rattle.class_model.specs.ReadingCodeAttribute.{read_handler}
use Rattle.class_read.proofs.handlers.handlers.Given as goal

abbrev pub invariant-loop : goal.invariant-loop
invariant-loop l = behind l.handlers (many (l.rows - l.counter) (read_handler l.pool l.starts l.end) l.cursor)
    ≡ many l.rows (read_handler l.pool l.starts l.end) l.fn.cursor
