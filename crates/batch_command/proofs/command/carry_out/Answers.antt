-- Answers of `carry_out`: what its calls ask for, and what it promises.
use Rattle.std.proofs.lemmas.Result.{err_from_is_err_and}
use Rattle.tree_io.specs.declared.faults.WriteFault.TheVariants as written
use Rattle.batch_command.specs.Batch.{IsDue}
use Rattle.batch_command.proofs.Endings.{all_written, stopped_seen, writing_stopped}
use Rattle.batch_command.proofs.command.carry_out.Goals as goal

pub returns-in_err-batch-clause-left : goal.returns-in_err-batch-clause-left
returns-in_err-batch-clause-left g c =
    let p = err_from_is_err_and c.from_residual.result c.from_residual.ensures.1 in
    rw (p.1, p.2) (stopped_seen (IsDue g.W.Work.parts c.args.list.now) c.in_err-batch.field-0.0 _ _ _ _
    c.in_err-batch.ensures.found.found)

pub returns-in-Ok-clause-left : goal.returns-in-Ok-clause-left
returns-in-Ok-clause-left g c =
    all_written (IsDue g.W.Work.parts c.args.list.now) c.in_ok-batch.batch c.in_ok-batch.ensures.made _ _ _ _ _ _
    c.in_ok-batch.ensures.found.found c.in-Ok.ensures.written

pub returns-in-Err-Failed-clause-left : goal.returns-in-Err-Failed-clause-left
returns-in-Err-Failed-clause-left g c =
    writing_stopped (IsDue g.W.Work.parts c.args.list.now) c.in_ok-batch.batch c.in_ok-batch.ensures.made written.Failed
    _ _ _ _ _ _ c.in_ok-batch.ensures.found.found (rw c.in-Err-Failed.field-0-is at c.in-Err-Failed.ensures.written)

pub returns-clause-left : goal.returns-clause-left
returns-clause-left g c =
    writing_stopped (IsDue g.W.Work.parts c.args.list.now) c.in_ok-batch.batch c.in_ok-batch.ensures.made
    written.OutOfMemory _ _ _ _ _ _ c.in_ok-batch.ensures.found.found
    (rw c.in-Err-OutOfMemory.field-0-is at c.in-Err-OutOfMemory.ensures.written)
