-- Answers of `all_named_right`: what its calls ask for, and what it promises.
use Rattle.std.proofs.Common.{sym, arith}
use Rattle.std.proofs.lemmas.Result.{err_from_is_err_and}
use Rattle.class_read.specs.bodies.Entries.{faults_in}
use Rattle.class_read.proofs.Judging.{goes_on, ends, is_done}
use Rattle.class_read.proofs.entries.all_named_right.Goals as goal

pub returns-in_err-named_right : goal.returns-in_err-named_right
returns-in_err-named_right c =
    let pool = c.args.pool.now in
    let offsets = c.args.offsets.now in
    let p = err_from_is_err_and c.from_residual.result c.from_residual.ensures.1 in
    rw (p.1, p.2) (ends pool c.loop-index.index offsets c.in_err-named_right.field-0.0 (faults_in pool pool offsets)
    (sym c.in_err-named_right.ensures) c.loop-index.invariant)

pub loop-index-preserved : goal.loop-index-preserved
loop-index-preserved c =
    let pool = c.args.pool.now in
    let offsets = c.args.offsets.now in
    goes_on pool c.loop-index.index offsets (faults_in pool pool offsets)
    (sym c.in_ok-named_right.ensures) c.loop-index.invariant

pub returns : goal.returns
returns c =
    let pool = c.args.pool.now in
    let offsets = c.args.offsets.now in
    let size = c.len-index-end.ensures in
    let test = c.loop-index-test.false in
    is_done pool c.loop-index.index offsets (faults_in pool pool offsets) (omega (arith, size)) c.loop-index.invariant
