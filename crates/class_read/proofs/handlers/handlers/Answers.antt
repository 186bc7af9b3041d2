-- Answers of `handlers`: what its calls ask for, and what it promises.
use Rattle.std.proofs.Common.{◌≡◌, ◌++◌, ◌∷◌, []}
use Rattle.std.proofs.lemmas.Result.{err_from_is_err_and}
use Rattle.format_reading.specs.Reader.{many}
use Rattle.format_reading.proofs.Many.{goes_on, ends, is_done}
use Rattle.class_model.specs.ReadingCodeAttribute.{read_handler}
use Rattle.class_read.proofs.handlers.handlers.Goals as goal

pub returns-in_err-handler : goal.returns-in_err-handler
returns-in_err-handler c =
    let p = err_from_is_err_and c.from_residual-in_err-handler.result c.from_residual-in_err-handler.ensures.1 in
    let r = read_handler c.args.pool.now c.args.starts.now c.args.end in
    rw (p.1, p.2)
    (ends r c.in_err-handler.field-0.0 c.read_handler.new.cursor c.read_handler.new.cursor c.loop.handlers c.args.rows
    c.loop.counter c.loop.cursor (many c.args.rows r c.args.cursor.now) c.loop-test.true c.in_err-handler.ensures
    c.loop.invariant)

pub loop-preserved : goal.loop-preserved
loop-preserved c =
    let r = read_handler c.args.pool.now c.args.starts.now c.args.end in
    let e : c.push.new.self ≡ c.loop.handlers ++ c.in_ok-handler.handler ∷ [] = c.in_ok-push.ensures in
    rw e (goes_on r c.loop.handlers c.args.rows c.loop.counter c.loop.cursor c.read_handler.new.cursor
    c.in_ok-handler.handler (many c.args.rows r c.args.cursor.now) c.loop-test.true c.in_ok-handler.ensures
    c.loop.invariant)

pub returns : goal.returns
returns c =
    let r = read_handler c.args.pool.now c.args.starts.now c.args.end in
    is_done r c.loop.handlers c.args.rows c.loop.counter c.loop.cursor
    (many c.args.rows r c.args.cursor.now) c.loop-test.false c.loop.invariant
