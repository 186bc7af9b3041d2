-- Answers of `pass_attributes`: what its calls ask for, and what it promises.
use Rattle.std.proofs.lemmas.Result.{err_from_is_err_and}
use Rattle.class_read.specs.bodies.PassedOver.{attributes_passed}
use Rattle.class_read.proofs.PassedLoop.{goes_on, ends, is_done}
use Rattle.class_read.proofs.passed_over.pass_attributes.Goals as goal

pub returns-in_err-skip_attribute : goal.returns-in_err-skip_attribute
returns-in_err-skip_attribute c =
    let p = err_from_is_err_and c.from_residual.result c.from_residual.ensures.1 in
    rw (p.1, p.2) (ends c.args.count c.loop.counter c.loop.cursor c.in_err-skip_attribute.field-0.0
    (attributes_passed c.args.count c.args.cursor.now) c.loop-test.true c.in_err-skip_attribute.ensures
    c.loop.invariant)

pub loop-preserved : goal.loop-preserved
loop-preserved c = goes_on c.args.count c.loop.counter c.loop.cursor c.skip_attribute.new.cursor
    (attributes_passed c.args.count c.args.cursor.now) c.loop-test.true c.in_ok-skip_attribute.ensures c.loop.invariant

pub returns : goal.returns
returns c = is_done c.args.count c.loop.counter c.loop.cursor
    (attributes_passed c.args.count c.args.cursor.now) c.loop-test.false c.loop.invariant
