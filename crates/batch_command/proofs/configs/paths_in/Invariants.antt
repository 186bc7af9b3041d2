use Rattle.std.proofs.Common.{◌≡◌, ◌+◌, ◌++◌, drop}
use Rattle.batch_command.specs.Jobs.{paths_from}
use Rattle.batch_command.proofs.configs.paths_in.Given as goal

abbrev pub invariant-loop-at : goal.invariant-loop-at
invariant-loop-at l = l.paths ++ paths_from (l.at + 1) (drop l.at l.configs) ≡ paths_from 1 l.configs
