use Rattle.std.proofs.Common.{◌≡◌, ◌-◌}
use Rattle.format_reading.specs.Reader.{u2, item, many, behind}
use Rattle.class_model.specs.Lookups.{class_at}
use Rattle.class_read.proofs.attributes.classes.Given as goal

abbrev pub invariant-loop : goal.invariant-loop
invariant-loop l = behind l.classes (many (l.count - l.counter) (item u2 (class_at l.pool)) l.cursor)
    ≡ many l.count (item u2 (class_at l.pool)) l.fn.cursor
