-- Answers of `run_command`: what its calls ask for, and what it promises.
use Rattle.std.proofs.Common.{subst}
use Rattle.command_frame.specs.Output.{SaysText, output}
use Rattle.command_frame.proofs.Endings.{answers_memory, ended_before, finished}
use Rattle.command_frame.proofs.command.run_command.Goals as goal

pub returns-in-Ok-clause-ended : goal.returns-in-Ok-clause-ended
returns-in-Ok-clause-ended g c =
    finished (g.C.Command.plans c.args.command.now) (g.C.Command.due c.args.command.now) c.in-Ok.plan c.say_text.result
    _ _ _ _ _ _ _ _ c.in-Ok.ensures.left
    (subst (λ t. SaysText t c.say_text.result
    (output (g.S.Sink.written c.args.out.now) (g.S.Sink.faults c.args.out.now) (g.S.Sink.log c.args.out.now))
    (output (g.S.Sink.written c.say_text.new.out) (g.S.Sink.faults c.say_text.new.out)
    (g.S.Sink.log c.say_text.new.out)))
    c.as_slice.ensures c.say_text.ensures.said) c.say_text.ensures.device

pub returns-in-Ok-clause-memory : goal.returns-in-Ok-clause-memory
returns-in-Ok-clause-memory g c =
    answers_memory (g.C.Command.plans c.args.command.now) (g.C.Command.due c.args.command.now) c.say_text.result _ _
    (returns-in-Ok-clause-ended g c)

pub returns-in-Err-clause-ended : goal.returns-in-Err-clause-ended
returns-in-Err-clause-ended g c =
    ended_before (g.C.Command.plans c.args.command.now) (g.C.Command.due c.args.command.now) c.in-Err.stop
    c.say_stop.result _ _ _ _ _ _ _ _ c.in-Err.ensures.device c.in-Err.ensures.left c.say_stop.ensures

pub returns-in-Err-clause-memory : goal.returns-in-Err-clause-memory
returns-in-Err-clause-memory g c =
    answers_memory (g.C.Command.plans c.args.command.now) (g.C.Command.due c.args.command.now) c.say_stop.result _ _
    (returns-in-Err-clause-ended g c)
