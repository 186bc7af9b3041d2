use Rattle.std.proofs.Common.{◌≡◌, drop}
use Rattle.class_pool.specs.Faults.{first_fault, super_fault, super_faults}
use Rattle.class_pool.proofs.hierarchy.rounds.check_supertypes.Given as goal

abbrev pub invariant-loop-class : goal.invariant-loop-class
invariant-loop-class l = super_faults l.set ≡ first_fault (λ c. c) (super_fault l.set) (drop l.class-index l.set)
