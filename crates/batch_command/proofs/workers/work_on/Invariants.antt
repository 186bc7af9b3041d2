use Rattle.batch_command.specs.bodies.Workers.{MakesDue}
use Rattle.batch_command.proofs.workers.work_on.Given as goal

abbrev pub invariant-loop : goal.invariant-loop
invariant-loop g l = MakesDue g.W.Work.parts l.board.configs l.member
