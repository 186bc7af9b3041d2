use Rattle.std.proofs.Common.{◌≡◌, ◌≤◌, ◌-◌, length}
use Rattle.code_read.specs.Decoding.{placed_to_end, in_front}
use Rattle.code_read.proofs.reading.placed_to_end.Given as goal

abbrev pub invariant-loop : goal.invariant-loop
invariant-loop l = (in_front l.placed (placed_to_end (l.count - l.counter) l.pool l.cursor)
    ≡ placed_to_end l.count l.pool l.fn.cursor) × (length l.placed ≤ l.counter)
