-- Answers of `frames`: what its calls ask for, and what it promises.
use Rattle.std.proofs.Common.{◌≡◌, ◌||◌, None, Some, Bool, sym, ap, ◌∙◌}
use Rattle.std.proofs.lemmas.Result.{err_from_is_err_and}
use Rattle.class_model.specs.ReadingFrames.{Before, read_frame}
use Rattle.frame_read.specs.bodies.Before.{row_read}
use Rattle.frame_read.proofs.Behind.{rows_behind, rows_go_on, rows_stop, rows_done, onto_is}
use Rattle.frame_read.proofs.table.frames.Goals as goal
use Rattle.frame_read.proofs.table.frames.Goals.{then-names_float, else-names_float}

pub returns-in_err-floats : goal.returns-in_err-floats
returns-in_err-floats c =
    let total = rows_behind c.args.code.now.pool.now c.args.code.now.starts.now c.args.code.now.ops.now
    c.args.code.now.max_stack c.args.code.now.max_locals
    c.args.count
    (record { locals = c.args.frames.now.locals; offset = None }) c.args.cursor.now in
    let p = err_from_is_err_and c.from_residual.result c.from_residual.ensures.1 in
    rw (p.1, p.2) (rows_stop c.args.code.now.pool.now c.args.code.now.starts.now c.args.code.now.ops.now
    c.args.code.now.max_stack c.args.code.now.max_locals
    (row_read c.frame.new.frames) (λ (floats : Bool).
    (floats, c.frame.new.frames.frames)) c.in_err-floats.field-0.0 c.frame.new.cursor c.frame.new.cursor
    c.loop.names_float
    c.loop.frames.frames c.args.count c.loop.counter
    (record { locals = c.loop.frames.locals; offset = c.loop.previous }) c.loop.cursor total c.loop-test.true
    c.in_err-floats.ensures c.loop.invariant)

pub loop-preserved : goal.loop-preserved
loop-preserved c =
    let total = rows_behind c.args.code.now.pool.now c.args.code.now.starts.now c.args.code.now.ops.now
    c.args.code.now.max_stack c.args.code.now.max_locals
    c.args.count
    (record { locals = c.args.frames.now.locals; offset = None }) c.args.cursor.now in
    let before : Before = record { locals = c.loop.frames.locals; offset = c.loop.previous } in
    let next : Before = record { locals = c.frame.new.frames.locals; offset = Some c.in_ok-floats.at } in
    let row = onto_is c.loop.frames.frames c.frame.new.frames.frames
    (read_frame c.args.code.now.pool.now c.args.code.now.starts.now
    c.args.code.now.ops.now c.args.code.now.max_stack c.args.code.now.max_locals before c.loop.cursor)
    c.in_ok-floats.floats next
    c.frame.new.cursor
    c.in_ok-floats.ensures in
    let more = rows_go_on c.args.code.now.pool.now c.args.code.now.starts.now c.args.code.now.ops.now
    c.args.code.now.max_stack c.args.code.now.max_locals
    c.loop.names_float
    c.loop.frames.frames c.args.count c.loop.counter before c.loop.cursor c.frame.new.cursor
    (c.in_ok-floats.floats, row.0, next) total c.loop-test.true row.1 c.loop.invariant in
    let either : c.if-names_float.names_float
    ≡ (c.loop.names_float || c.in_ok-floats.floats) = elim c.if-names_float.branch [
      | then-names_float w ↦ w.names_float-is ∙ w.if-names_float.true
          ∙ sym (ap (λ (b : Bool). b || c.in_ok-floats.floats) w.if-names_float.true)
      | else-names_float w ↦ w.names_float-is
          ∙ sym (ap (λ (b : Bool). b || c.in_ok-floats.floats) w.if-names_float.false)
    ] in
    rw (row.2, either) more

pub returns : goal.returns
returns c =
    let total = rows_behind c.args.code.now.pool.now c.args.code.now.starts.now c.args.code.now.ops.now
    c.args.code.now.max_stack c.args.code.now.max_locals
    c.args.count
    (record { locals = c.args.frames.now.locals; offset = None }) c.args.cursor.now in
    rows_done c.args.code.now.pool.now c.args.code.now.starts.now c.args.code.now.ops.now c.args.code.now.max_stack
    c.args.code.now.max_locals c.loop.names_float
    c.loop.frames.frames c.args.count c.loop.counter
    (record { locals = c.loop.frames.locals; offset = c.loop.previous })
    c.loop.cursor total c.loop-test.false c.loop.invariant
