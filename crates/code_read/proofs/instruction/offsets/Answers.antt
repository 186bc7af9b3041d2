-- Answers of `offsets`: what its calls ask for, and what it promises.
use Rattle.std.proofs.Common.{◌≡◌, ◌++◌, ◌∷◌, [], ap}
use Rattle.std.proofs.lemmas.Result.{err_from_is_err_and}
use Rattle.format_reading.specs.Reader.{u4, many}
use Rattle.format_reading.proofs.Many.{goes_on, is_done}
use Rattle.code_read.specs.bodies.Fault.{with_wrong}
use Rattle.code_read.proofs.Loops.{told_ok, stops, many_fault}
use Rattle.code_read.proofs.instruction.offsets.Goals as goal

pub returns-in_err-next : goal.returns-in_err-next
returns-in_err-next c =
    let p = err_from_is_err_and c.from_residual.result c.from_residual.ensures.1 in
    let total = many c.args.count u4 c.args.cursor.now in
    rw (p.1, p.2) (stops (u4 c.loop.cursor) total c.in_err-next.field-0.0 c.offset.new.cursor c.offset.new.cursor
    (λ f h. many_fault u4 c.loop.offsets c.args.count c.loop.counter c.loop.cursor f total c.loop-test.true
    c.loop.invariant h) c.in_err-next.ensures)

pub loop-preserved : goal.loop-preserved
loop-preserved c =
    let e : c.push.new.self ≡ c.loop.offsets ++ c.in_ok-next.next ∷ [] = c.in_ok-push.ensures in
    rw e (goes_on u4 c.loop.offsets c.args.count c.loop.counter c.loop.cursor c.offset.new.cursor c.in_ok-next.next
    (many c.args.count u4 c.args.cursor.now) c.loop-test.true
    (told_ok (u4 c.loop.cursor) (c.in_ok-next.next, c.offset.new.cursor) c.in_ok-next.ensures) c.loop.invariant)

pub returns : goal.returns
returns c = ap with_wrong (is_done u4 c.loop.offsets c.args.count c.loop.counter c.loop.cursor
    (many c.args.count u4 c.args.cursor.now) c.loop-test.false c.loop.invariant)
