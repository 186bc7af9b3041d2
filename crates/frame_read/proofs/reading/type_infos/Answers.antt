-- Answers of `type_infos`: what its calls ask for, and what it promises.
use Rattle.std.proofs.Common.{◌≡◌, ◌++◌, ◌∷◌, [], map}
use Rattle.std.proofs.lemmas.Result.{err_from_is_err_and}
use Rattle.format_reading.specs.Reader.{many}
use Rattle.format_reading.proofs.Many.{is_done}
use Rattle.class_model.specs.ReadingFrames.{read_type}
use Rattle.frame_read.specs.bodies.Rows.{info_of}
use Rattle.frame_read.proofs.Rows.{goes_on_as}
use Rattle.frame_read.proofs.reading.type_infos.Goals as goal
use Rattle.code_read.proofs.Loops.{many_fault}

pub returns-in_err-next : goal.returns-in_err-next
returns-in_err-next c =
    let p = err_from_is_err_and c.from_residual-in_err-next.result c.from_residual-in_err-next.ensures.1 in
    let total = many c.args.count read_type c.args.cursor.now in
    rw (p.1, p.2)
    (many_fault read_type
    (map info_of c.loop.infos) c.args.count c.loop.counter c.loop.cursor c.in_err-next.field-0.0 total
    c.loop-test.true c.loop.invariant c.in_err-next.ensures)

pub loop-preserved : goal.loop-preserved
loop-preserved c =
    let e : c.push.new.self ≡ c.loop.infos ++ c.in_ok-next.next ∷ [] = c.in_ok-push.ensures in
    rw e (goes_on_as info_of read_type c.loop.infos c.args.count c.loop.counter c.loop.cursor c.type_info.new.cursor
    c.in_ok-next.next
    (many c.args.count read_type c.args.cursor.now) c.loop-test.true c.in_ok-next.ensures c.loop.invariant)

pub returns : goal.returns
returns c = is_done read_type (map info_of c.loop.infos) c.args.count c.loop.counter c.loop.cursor
    (many c.args.count read_type c.args.cursor.now) c.loop-test.false c.loop.invariant
