-- Answers of `read_methods`: what its calls ask for, and what it promises.
use Rattle.std.proofs.Common.{[]}
use Rattle.std.proofs.lemmas.Result.{err_from_is_err_and}
use Rattle.class_model.specs.ReadingMembers.{read_methods}
use Rattle.class_read.proofs.MethodLoop.{goes_on, ends, is_done}
use Rattle.class_read.proofs.methods.read_methods.Goals as goal

pub returns-in_err-member : goal.returns-in_err-member
returns-in_err-member c =
    let p = err_from_is_err_and c.from_residual-in_err-member.result c.from_residual-in_err-member.ensures.1 in
    let pool = c.args.pool.now in
    let total = read_methods c.args.count pool c.args.in_interface c.args.class.now [] c.args.cursor.now in
    rw (p.1, p.2)
    (ends pool c.args.in_interface c.args.class.now c.in_err-member.field-0.0 c.method_info.new.cursor
    c.method_info.new.cursor (c.loop.methods, c.loop.left_out) c.args.count c.loop.counter c.loop.before
    c.loop.cursor total c.loop-test.true c.in_err-member.ensures.read c.loop.invariant)

pub loop-preserved : goal.loop-preserved
loop-preserved c =
    let pool = c.args.pool.now in
    let total = read_methods c.args.count pool c.args.in_interface c.args.class.now [] c.args.cursor.now in
    let kept = c.in_ok-keep.ensures in
    rw (kept.methods, kept.before, kept.left_out)
    (goes_on pool c.args.in_interface c.args.class.now
    (c.loop.methods, c.loop.left_out) c.args.count c.loop.counter c.loop.before c.loop.cursor c.method_info.new.cursor
    c.in_ok-member.member total c.loop-test.true c.in_ok-member.ensures.read c.loop.invariant)

pub returns : goal.returns
returns c =
    let pool = c.args.pool.now in
    let total = read_methods c.args.count pool c.args.in_interface c.args.class.now [] c.args.cursor.now in
    is_done pool c.args.in_interface c.args.class.now
    (c.loop.methods, c.loop.left_out) c.args.count c.loop.counter c.loop.before c.loop.cursor total c.loop-test.false
    c.loop.invariant
