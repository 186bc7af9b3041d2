use Rattle.std.proofs.Common.{◌≡◌, ◌-◌, false}
use Rattle.format_reading.specs.Reader.{behind}
use Rattle.class_model.specs.ReadingPool.{slots}
use Rattle.class_read.proofs.entries.slots.Given as goal

abbrev pub invariant-loop-done : goal.invariant-loop-done
invariant-loop-done l = behind l.slots (slots (l.count - l.done) l.second l.cursor) ≡ slots l.count false l.fn.cursor
