use Rattle.std.proofs.Common.{◌≡◌}
use Rattle.link_check.proofs.First.{first_from}
use Rattle.class_pool.specs.Resolution.{first}
use Rattle.type_verifier.specs.bodies.FirstFaults.{fault_of, faults_of, method_checked}
use Rattle.type_verifier.proofs.verify.class_fault.Given as goal

abbrev pub invariant-loop-number : goal.invariant-loop-number
invariant-loop-number l = first (faults_of l.set l.own l.class)
    ≡ first_from (λ p. fault_of (method_checked l.set l.own l.class p.0 p.1)) 0 l.class.methods l.number
