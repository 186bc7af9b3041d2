-- Answers of `frame`: what its calls ask for, and what it promises.
use Rattle.std.proofs.Common.{◌∙◌, ap, sym}
use Rattle.std.specs.Prelude.{option_map}
use Rattle.frame_read.specs.bodies.Rows.{row_of}
use Rattle.frame_read.specs.bodies.Before.{built_of}
use Rattle.frame_read.proofs.Behind.{row_appended}
use Rattle.frame_read.proofs.table.frame.Goals as goal

pub returns-in-Some : goal.returns-in-Some
returns-in-Some c =
    let built = c.row_stands.new.frames in
    rw c.names_float-floats.ensures (row_appended c.args.code.now.pool.now c.args.code.now.starts.now
    c.args.code.now.ops.now c.args.code.now.max_stack
    c.args.code.now.max_locals c.args.frames.now.frames built c.in-Some.at
    (record { locals = c.args.frames.now.locals; offset = c.args.previous }) c.args.cursor.now c.row.new.cursor
    (row_of c.in_ok-row.row) c.in_ok-row.ensures
    (sym (ap (option_map (built_of built)) c.in-Some.is) ∙ c.in_ok-at.ensures))
