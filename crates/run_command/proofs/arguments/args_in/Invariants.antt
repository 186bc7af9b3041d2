use Rattle.std.proofs.Common.{◌≡◌, length}
use Rattle.run_command.proofs.Taking.{behind}
use Rattle.run_command.specs.Arguments.{args_in}
use Rattle.run_command.proofs.arguments.args_in.Given as goal

abbrev pub invariant-loop-others : goal.invariant-loop-others
invariant-loop-others l = behind l.args (args_in l.others l.left) ≡ args_in l.types l.words

abbrev pub decreases-loop-others : goal.decreases-loop-others
decreases-loop-others l = length l.others
