-- Answers of `places`: what its calls ask for, and what it promises.
use Rattle.std.proofs.Common.{◌≡◌, ◌≤◌, ◌<◌, ◌^◌, sym, ◌∙◌, arith}
use Rattle.class_model.specs.CanonicalCode.{places}
use Rattle.code_write.proofs.Ends.{end_from, end_done, code_end, places_done}
use Rattle.code_write.proofs.Ready.{placed_long, placed_short}
use Rattle.code_write.proofs.sizes.places.Goals as goal

pub returns-then-at-gt-MOST_BYTES : goal.returns-then-at-gt-MOST_BYTES
returns-then-at-gt-MOST_BYTES c =
    let pool = c.args.table.now in
    let ins = c.args.ins.now in
    let end : c.loop-instruction.at ≡ end_from pool 0 ins =
    end_done pool ins c.loop-instruction.instruction-index c.loop-instruction.at
    (end_from pool 0 ins) c.loop-instruction-test.false c.loop-instruction.invariant.0 in
    let le : 2 ^ 16 ≤ c.loop-instruction.at = omega (arith, c.if-at-gt-MOST_BYTES.true) in
    placed_long pool ins c.loop-instruction.at (code_end pool (places pool ins) ins ∙ sym end) le

pub returns : goal.returns
returns c =
    let pool = c.args.table.now in
    let ins = c.args.ins.now in
    let n = c.loop-instruction.instruction-index in
    let at = c.loop-instruction.at in
    let end : at ≡ end_from pool 0 ins =
    end_done pool ins n at (end_from pool 0 ins) c.loop-instruction-test.false c.loop-instruction.invariant.0 in
    let lt : at < 2 ^ 16 = omega (arith, c.if-at-gt-MOST_BYTES.false) in
    let all : c.note-2.new.places ≡ places pool ins =
    places_done pool ins n at c.loop-instruction.places c.note-2.new.places
    (places pool ins) c.loop-instruction-test.false (c.in_ok-note-2.ensures lt)
    (c.loop-instruction.invariant.1 lt) in
    placed_short pool ins at c.note-2.new.places (code_end pool (places pool ins) ins ∙ sym end) lt all
