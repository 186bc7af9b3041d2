use Rattle.std.proofs.Common.{◌≡◌, ◌-◌}
use Rattle.format_reading.specs.Reader.{many, behind}
use Rattle.class_model.specs.ReadingAttributes.{read_line}
use Rattle.class_read.proofs.attributes.lines.Given as goal

abbrev pub invariant-loop : goal.invariant-loop
invariant-loop l = behind l.lines (many (l.count - l.counter) read_line l.cursor) ≡ many l.count read_line l.fn.cursor
