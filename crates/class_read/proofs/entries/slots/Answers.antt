-- Answers of `slots`: what its calls ask for, and what it promises.
use Rattle.std.proofs.Common.{◌≡◌, ◌++◌, ◌∷◌, [], false}
use Rattle.std.proofs.lemmas.Result.{err_from_is_err_and}
use Rattle.class_model.specs.ReadingPool.{slots}
use Rattle.class_read.proofs.Slots.{goes_on, ends, is_done}
use Rattle.class_read.proofs.entries.slots.Goals as goal

pub returns-in_err-slot : goal.returns-in_err-slot
returns-in_err-slot c =
    let p = err_from_is_err_and c.from_residual-in_err-slot.result c.from_residual-in_err-slot.ensures.1 in
    rw (p.1, p.2)
    (ends c.in_err-slot.field-0.0 c.slot.new.cursor c.slot.new.cursor c.loop-done.slots c.args.count c.loop-done.done
    c.loop-done.second c.loop-done.cursor (slots c.args.count false c.args.cursor.now) c.loop-done-test.true
    c.in_err-slot.ensures c.loop-done.invariant)

pub loop-done-preserved : goal.loop-done-preserved
loop-done-preserved c =
    let e : c.push.new.self ≡ c.loop-done.slots ++ c.in_ok-slot.slot ∷ [] = c.in_ok-push.ensures in
    rw (e, c.takes_two-second.ensures)
    (goes_on c.loop-done.slots c.args.count c.loop-done.done c.loop-done.second c.loop-done.cursor c.slot.new.cursor
    c.in_ok-slot.slot (slots c.args.count false c.args.cursor.now) c.loop-done-test.true c.in_ok-slot.ensures
    c.loop-done.invariant)

pub returns : goal.returns
returns c = is_done c.loop-done.slots c.args.count c.loop-done.done c.loop-done.second c.loop-done.cursor
    (slots c.args.count false c.args.cursor.now) c.loop-done-test.false c.loop-done.invariant
