-- Answers of `accepted_set`: what its calls ask for, and what it promises.
use Rattle.std.proofs.lemmas.Result.{err_from_is_err_and}
use Rattle.set_read.proofs.Judging.{no_set, no_links}
use Rattle.set_read.proofs.reading.accepted_set.Goals as goal

pub returns-in_err-set : goal.returns-in_err-set
returns-in_err-set c =
    let p = err_from_is_err_and c.from_residual.result c.from_residual.ensures.1 in
    rw (p.1, p.2) (record { exact = no_set c.args.classes c.in_err-set.field-0.0 c.in_err-set.ensures.exact })

pub returns-in-Err : goal.returns-in-Err
returns-in-Err c = record {
  exact = no_links c.in_ok-set.set c.args.classes c.in-Err.fault c.in_ok-set.ensures.exact c.in-Err.ensures.exact;
}
