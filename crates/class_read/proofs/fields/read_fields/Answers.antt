-- Answers of `read_fields`: what its calls ask for, and what it promises.
use Rattle.std.proofs.Common.{[]}
use Rattle.std.proofs.lemmas.Result.{err_from_is_err_and}
use Rattle.class_model.specs.ReadingMembers.{read_fields}
use Rattle.class_read.proofs.FieldLoop.{goes_on, ends, is_done}
use Rattle.class_read.proofs.fields.read_fields.Goals as goal

pub returns-in_err-member : goal.returns-in_err-member
returns-in_err-member c =
    let p = err_from_is_err_and c.from_residual-in_err-member.result c.from_residual-in_err-member.ensures.1 in
    let pool = c.args.pool.now in
    rw (p.1, p.2)
    (ends pool c.args.in_interface c.in_err-member.field-0.0 c.field_info.new.cursor c.field_info.new.cursor
    c.loop.fields c.args.count c.loop.counter c.loop.before c.loop.cursor
    (read_fields c.args.count pool c.args.in_interface [] c.args.cursor.now) c.loop-test.true
    c.in_err-member.ensures.read c.loop.invariant)

pub loop-preserved : goal.loop-preserved
loop-preserved c =
    let pool = c.args.pool.now in
    let m = c.in_ok-member.member in
    let kept = c.in_ok-keep.ensures in
    rw (kept.before, kept.fields)
    (goes_on pool c.args.in_interface c.loop.fields c.args.count c.loop.counter c.loop.before c.loop.cursor
    c.field_info.new.cursor m (read_fields c.args.count pool c.args.in_interface [] c.args.cursor.now)
    c.loop-test.true c.in_ok-member.ensures.read c.loop.invariant)

pub returns : goal.returns
returns c =
    let pool = c.args.pool.now in
    is_done pool c.args.in_interface c.loop.fields c.args.count c.loop.counter c.loop.before c.loop.cursor
    (read_fields c.args.count pool c.args.in_interface [] c.args.cursor.now) c.loop-test.false c.loop.invariant
