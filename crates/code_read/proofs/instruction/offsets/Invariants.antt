use Rattle.std.proofs.Common.{◌≡◌, ◌-◌}
use Rattle.format_reading.specs.Reader.{u4, many, behind}
use Rattle.code_read.proofs.instruction.offsets.Given as goal

abbrev pub invariant-loop : goal.invariant-loop
invariant-loop l = behind l.offsets (many (l.count - l.counter) u4 l.cursor) ≡ many l.count u4 l.fn.cursor
