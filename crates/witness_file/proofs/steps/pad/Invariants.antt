use Rattle.std.proofs.Common.{◌≡◌, ◌-◌, length}
use Rattle.witness_file.specs.WitnessReading.{padded}
use Rattle.witness_file.proofs.steps.pad.Given as goal

abbrev pub invariant-loop-alloc : goal.invariant-loop-alloc
invariant-loop-alloc l = padded l.count l.steps ≡ padded l.count l.initial.steps

abbrev pub decreases-loop-alloc : goal.decreases-loop-alloc
decreases-loop-alloc l = l.count - length l.steps
