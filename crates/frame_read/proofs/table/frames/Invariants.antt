use Rattle.std.proofs.Common.{◌≡◌, ◌-◌, None}
use Rattle.frame_read.proofs.Behind.{joined, rows_behind}
use Rattle.frame_read.proofs.table.frames.Given as goal

abbrev pub invariant-loop : goal.invariant-loop
invariant-loop l =
    joined l.names_float l.frames.frames (rows_behind l.code.pool.now l.code.starts.now l.code.ops.now l.code.max_stack
    l.code.max_locals (l.count - l.counter)
    (record { locals = l.frames.locals; offset = l.previous }) l.cursor)
    ≡ rows_behind l.code.pool.now l.code.starts.now l.code.ops.now l.code.max_stack l.code.max_locals l.count
    (record { locals = l.fn.frames.locals; offset = None }) l.fn.cursor
