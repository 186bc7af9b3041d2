use Rattle.std.proofs.Common.{◌≡◌}
use Rattle.std.specs.List.{enumerate_from, flat_map}
use Rattle.link_check.proofs.First.{first_from}
use Rattle.class_pool.specs.Resolution.{first}
use Rattle.type_verifier.specs.bodies.FirstFaults.{faults_of}
use Rattle.type_verifier.proofs.verify.set_fault.Given as goal

abbrev pub invariant-loop-number : goal.invariant-loop-number
invariant-loop-number l =
    first (flat_map (λ p. faults_of l.set p.0 p.1) (enumerate_from 0 l.set))
    ≡ first_from (λ p. first (faults_of l.set p.0 p.1)) 0 l.set l.number
