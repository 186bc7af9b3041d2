use Rattle.std.proofs.Common.{◌≡◌, ◌++◌}
use Rattle.gen_classes.specs.Generated.{generated}
use Rattle.gen_classes.proofs.files.generate.Given as goal

abbrev pub invariant-loop-file : goal.invariant-loop-file
invariant-loop-file l = l.files ++ l.file-iterator ≡ generated l.fn.n
