-- Answers of `classes`: what its calls ask for, and what it promises.
use Rattle.std.proofs.Common.{◌≡◌, ◌++◌, ◌∷◌, []}
use Rattle.std.proofs.lemmas.Result.{err_from_is_err_and}
use Rattle.format_reading.specs.Reader.{u2, item, many}
use Rattle.format_reading.proofs.Many.{goes_on, ends, is_done}
use Rattle.class_model.specs.Lookups.{class_at}
use Rattle.class_read.proofs.attributes.classes.Goals as goal

pub returns-in_err-class : goal.returns-in_err-class
returns-in_err-class c =
    let p = err_from_is_err_and c.from_residual-in_err-class.result c.from_residual-in_err-class.ensures.1 in
    let r = item u2 (class_at c.args.pool.now) in
    rw (p.1, p.2)
    (ends r c.in_err-class.field-0.0 c.read_class.new.cursor c.read_class.new.cursor c.loop.classes c.args.count
    c.loop.counter c.loop.cursor (many c.args.count r c.args.cursor.now) c.loop-test.true c.in_err-class.ensures
    c.loop.invariant)

pub loop-preserved : goal.loop-preserved
loop-preserved c =
    let r = item u2 (class_at c.args.pool.now) in
    let e : c.push.new.self ≡ c.loop.classes ++ c.in_ok-class.class ∷ [] = c.in_ok-push.ensures in
    rw e (goes_on r c.loop.classes c.args.count c.loop.counter c.loop.cursor c.read_class.new.cursor c.in_ok-class.class
    (many c.args.count r c.args.cursor.now) c.loop-test.true c.in_ok-class.ensures c.loop.invariant)

pub returns : goal.returns
returns c =
    let r = item u2 (class_at c.args.pool.now) in
    is_done r c.loop.classes c.args.count c.loop.counter c.loop.cursor
    (many c.args.count r c.args.cursor.now) c.loop-test.false c.loop.invariant
