use Rattle.std.proofs.Common.{◌≡◌, ◌-◌, None}
use Rattle.format_reading.specs.Reader.{behind}
use Rattle.code_read.specs.bodies.Meaning.{matches_from}
use Rattle.code_read.proofs.instruction.matches.Given as goal

abbrev pub invariant-loop : goal.invariant-loop
invariant-loop l = behind l.matches (matches_from (l.count - l.counter) l.previous l.cursor)
    ≡ matches_from l.count None l.fn.cursor
