-- Answers of `matches`: what its calls ask for, and what it promises.
use Rattle.std.proofs.Common.{◌≡◌, ◌++◌, ◌∷◌, [], None, ap}
use Rattle.std.proofs.lemmas.Result.{err_from_is_err_and}
use Rattle.code_read.specs.bodies.Fault.{with_wrong}
use Rattle.code_read.specs.bodies.Meaning.{match_read, matches_from}
use Rattle.code_read.proofs.Loops.{told_ok, stops, matches_go_on, matches_fault, matches_done}
use Rattle.code_read.proofs.instruction.matches.Goals as goal

pub returns-in_err-next : goal.returns-in_err-next
returns-in_err-next c =
    let p = err_from_is_err_and c.from_residual.result c.from_residual.ensures.1 in
    let total = matches_from c.args.count None c.args.cursor.now in
    rw (p.1, p.2)
    (stops
    (match_read c.loop.previous c.loop.cursor) total c.in_err-next.field-0.0 c.match_at.new.cursor c.match_at.new.cursor
    (λ f h. matches_fault c.loop.matches c.args.count c.loop.counter c.loop.previous c.loop.cursor f total
    c.loop-test.true c.loop.invariant h) c.in_err-next.ensures)

pub loop-preserved : goal.loop-preserved
loop-preserved c =
    let e : c.push.new.self ≡ c.loop.matches ++ c.in_ok-next.next ∷ [] = c.in_ok-push.ensures in
    rw e (matches_go_on c.loop.matches c.args.count c.loop.counter c.loop.previous c.loop.cursor c.match_at.new.cursor
    c.in_ok-next.next (matches_from c.args.count None c.args.cursor.now) c.loop-test.true
    (told_ok (match_read c.loop.previous c.loop.cursor)
    (c.in_ok-next.next, c.match_at.new.cursor) c.in_ok-next.ensures) c.loop.invariant)

pub returns : goal.returns
returns c = ap with_wrong (matches_done c.loop.matches c.args.count c.loop.counter c.loop.previous c.loop.cursor
    (matches_from c.args.count None c.args.cursor.now) c.loop-test.false c.loop.invariant)
