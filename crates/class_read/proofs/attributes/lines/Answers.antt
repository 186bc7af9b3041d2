-- Answers of `lines`: what its calls ask for, and what it promises.
use Rattle.std.proofs.Common.{◌≡◌, ◌++◌, ◌∷◌, []}
use Rattle.std.proofs.lemmas.Result.{err_from_is_err_and}
use Rattle.jv_base.specs.declared.outcome.Or.TheVariants.{Fault}
use Rattle.format_reading.specs.Reader.{many}
use Rattle.format_reading.proofs.Many.{goes_on, ends, is_done}
use Rattle.class_model.specs.ReadingAttributes.{read_line}
use Rattle.class_read.proofs.attributes.lines.Goals as goal

pub returns-in_err-line : goal.returns-in_err-line
returns-in_err-line c =
    let p = err_from_is_err_and c.from_residual-in_err-line.result c.from_residual-in_err-line.ensures.1 in
    rw (p.1, p.2)
    (ends read_line
    (Fault c.in_err-line.field-0.0) c.read_line.new.cursor c.read_line.new.cursor c.loop.lines c.args.count
    c.loop.counter c.loop.cursor (many c.args.count read_line c.args.cursor.now) c.loop-test.true
    c.in_err-line.ensures c.loop.invariant)

pub loop-preserved : goal.loop-preserved
loop-preserved c =
    let e : c.push.new.self ≡ c.loop.lines ++ c.in_ok-line.line ∷ [] = c.in_ok-push.ensures in
    rw e (goes_on read_line c.loop.lines c.args.count c.loop.counter c.loop.cursor c.read_line.new.cursor
    c.in_ok-line.line (many c.args.count read_line c.args.cursor.now) c.loop-test.true c.in_ok-line.ensures
    c.loop.invariant)

pub returns : goal.returns
returns c = is_done read_line c.loop.lines c.args.count c.loop.counter c.loop.cursor
    (many c.args.count read_line c.args.cursor.now) c.loop-test.false c.loop.invariant
