-- Answers of `placed_at`: what its calls ask for, and what it promises.
use Rattle.std.proofs.Common.{◌≡◌, Ok, Err, sym, ap, ◌∙◌}
use Rattle.format_reading.specs.Fault.{cut}
use Rattle.format_reading.specs.Reader.{u1, or_cut, onwards}
use Rattle.class_model.specs.ReadingCode.{begun}
use Rattle.code_read.specs.Meaning.{meaning_of_read}
use Rattle.code_read.specs.Decoding.{at_offset}
use Rattle.code_read.proofs.Placed.{behind_opcode, without_opcode, wrong_is}
use Rattle.code_read.proofs.reading.placed_at.Goals as goal

pub returns-in_default : goal.returns-in_default
unfolding u1
returns-in_default c =
    let none : u1 c.args.cursor.now ≡ Err (cut c.in_default.field-0) = ap or_cut c.in_default.ensures.0 in
    without_opcode c.args.pool.now c.args.cursor.now c.place-at.result c.in_default.field-0 c.place-at.ensures none

pub returns-in-Ok-begun : goal.returns-in-Ok-begun
unfolding u1
returns-in-Ok-begun c =
    let at = c.place-at.result in
    let opcode : u1 c.args.cursor.now ≡ Ok (c.in-Ok.opcode, c.u1.new.self) = ap or_cut c.in-Ok.ensures in
    behind_opcode c.args.pool.now c.args.cursor.now c.u1.new.self at c.in-Ok.opcode c.place-at.ensures opcode
    ∙ ap (at_offset at) (c.in-Ok-begun.ensures at)

pub returns-in-Err-Fault : goal.returns-in-Err-Fault
unfolding u1
returns-in-Err-Fault c =
    let at = c.place-at.result in
    let opcode : u1 c.args.cursor.now ≡ Ok (c.in-Ok.opcode, c.u1.new.self) = ap or_cut c.in-Ok.ensures in
    let read = meaning_of_read c.args.pool.now (onwards at (begun c.args.pool.now at c.in-Ok.opcode) c.u1.new.self) in
    behind_opcode c.args.pool.now c.args.cursor.now c.u1.new.self at c.in-Ok.opcode c.place-at.ensures opcode
    ∙ ap (at_offset at)
    (wrong_is c.in-Err-Fault.field-0 c.in-Err-Fault.wrong c.begun.new.cursor read c.in-Err-Fault.field-0-is
    (c.in-Err-Fault.ensures at))
    ∙ ap (λ f. Err f) (sym c.code_fault.ensures)
