-- Answers of `lookup_matches`: what its calls ask for, and what it promises.
use Rattle.std.proofs.lemmas.Result.{err_from_is_err_and}
use Rattle.code_read.proofs.Loops.{lookup_done, lookup_stops}
use Rattle.code_read.proofs.instruction.lookup_matches.Goals as goal

pub returns-in_err-matches : goal.returns-in_err-matches
returns-in_err-matches c = λ pool pad.
    let p = err_from_is_err_and c.from_residual.result c.from_residual.ensures.1 in
    rw (p.1, p.2)
    (lookup_stops pool pad c.args.default c.args.count c.args.cursor.now c.in_err-matches.field-0.0
    c.matches.new.cursor c.matches.new.cursor c.in_err-matches.ensures)

pub returns : goal.returns
returns c = λ pool pad. lookup_done pool pad c.args.default c.args.count c.args.cursor.now c.matches.new.cursor
    c.in_ok-matches.matches c.in_ok-matches.ensures
