use Rattle.std.specs.List.{All}
use Rattle.batch_command.specs.bodies.Workers.{IsFresh}
use Rattle.batch_command.proofs.workers.hire.Given as goal

abbrev pub invariant-loop-number : goal.invariant-loop-number
invariant-loop-number l = All IsFresh l.crew.items
