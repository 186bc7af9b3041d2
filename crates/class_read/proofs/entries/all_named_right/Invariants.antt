use Rattle.std.proofs.Common.{◌≡◌, drop}
use Rattle.class_read.specs.bodies.Entries.{faults_in}
use Rattle.class_read.proofs.entries.all_named_right.Given as goal

abbrev pub invariant-loop-index : goal.invariant-loop-index
invariant-loop-index l = faults_in l.pool (drop l.index l.pool) (drop l.index l.offsets)
    ≡ faults_in l.pool l.pool l.offsets
