use Rattle.std.proofs.Common.{◌≡◌, drop}
use Rattle.class_pool.specs.Faults.{name_faults}
use Rattle.class_pool.proofs.hierarchy.rounds.check_names.Given as goal

abbrev pub invariant-loop-file : goal.invariant-loop-file
invariant-loop-file l = name_faults l.files ≡ name_faults (drop l.file-index l.files)
