-- Answers of `run_jobs`: what its calls ask for, and what it promises.
use Rattle.batch_command.specs.Batch.{IsDue}
use Rattle.batch_command.proofs.Endings.{answers_memory, ended_before, finished}
use Rattle.batch_command.proofs.command.run_jobs.Goals as goal

pub returns-in-Ok-clause-ended : goal.returns-in-Ok-clause-ended
returns-in-Ok-clause-ended g c =
    finished (IsDue g.W.Work.parts c.args.list.now) c.in-Ok.batch c.say_batch.result
    _ _ _ _ _ _ _ _ c.in-Ok.ensures.left c.say_batch.ensures.said c.say_batch.ensures.device

pub returns-in-Ok-clause-memory : goal.returns-in-Ok-clause-memory
returns-in-Ok-clause-memory g c =
    answers_memory (IsDue g.W.Work.parts c.args.list.now) c.say_batch.result _ _ (returns-in-Ok-clause-ended g c)

pub returns-in-Err-clause-ended : goal.returns-in-Err-clause-ended
returns-in-Err-clause-ended g c =
    ended_before (IsDue g.W.Work.parts c.args.list.now) c.in-Err.stop
    c.say_stop.result _ _ _ _ _ _ _ _ c.in-Err.ensures.device c.in-Err.ensures.left c.say_stop.ensures

pub returns-in-Err-clause-memory : goal.returns-in-Err-clause-memory
returns-in-Err-clause-memory g c =
    answers_memory (IsDue g.W.Work.parts c.args.list.now) c.say_stop.result _ _ (returns-in-Err-clause-ended g c)
