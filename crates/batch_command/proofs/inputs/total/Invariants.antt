use Rattle.std.proofs.Common.{◌≡◌, ◌+◌, drop}
use Rattle.class_files.specs.Input.{total}
use Rattle.batch_command.proofs.inputs.total.Given as goal

abbrev pub invariant-loop-at : goal.invariant-loop-at
invariant-loop-at l = l.sum + total (drop l.at l.files) ≡ total l.files
