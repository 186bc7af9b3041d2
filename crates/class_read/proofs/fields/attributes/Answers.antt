-- Answers of `attributes`: what its calls ask for, and what it promises.
use Rattle.std.proofs.lemmas.Result.{err_from_is_err_and}
use Rattle.class_model.specs.Flags.{is_static}
use Rattle.class_model.specs.ReadingAttributes.{attributes}
use Rattle.class_model.specs.ReadingMembers.{known_of_field, no_field_attribute}
use Rattle.class_read.proofs.AttributeLoop.{goes_on, ends, is_done}
use Rattle.class_read.proofs.fields.attributes.Goals as goal

pub returns-in_err-seen : goal.returns-in_err-seen
returns-in_err-seen c =
    let p = err_from_is_err_and c.from_residual.result c.from_residual.ensures.1 in
    let pool = c.args.pool.now in
    let known = known_of_field pool (is_static c.args.flags) c.args.ty.now in
    rw (p.1, p.2)
    (ends pool known c.in_err-seen.field-0.0 c.attribute.new.cursor c.attribute.new.cursor c.args.count c.loop.counter
    c.loop.seen c.loop.cursor (attributes c.args.count pool known no_field_attribute c.args.cursor.now)
    c.loop-test.true c.in_err-seen.ensures c.loop.invariant)

pub loop-preserved : goal.loop-preserved
loop-preserved c =
    let pool = c.args.pool.now in
    let known = known_of_field pool (is_static c.args.flags) c.args.ty.now in
    goes_on pool known c.args.count c.loop.counter c.loop.seen c.in_ok-seen.seen c.loop.cursor c.attribute.new.cursor
    (attributes c.args.count pool known no_field_attribute c.args.cursor.now) c.loop-test.true c.in_ok-seen.ensures
    c.loop.invariant

pub returns : goal.returns
returns c =
    let pool = c.args.pool.now in
    let known = known_of_field pool (is_static c.args.flags) c.args.ty.now in
    is_done pool known c.args.count c.loop.counter c.loop.seen c.loop.cursor
    (attributes c.args.count pool known no_field_attribute c.args.cursor.now) c.loop-test.false c.loop.invariant
