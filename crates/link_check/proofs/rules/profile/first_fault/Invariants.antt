use Rattle.std.proofs.Common.{◌≡◌}
use Rattle.std.specs.List.{enumerate_from, flat_map}
use Rattle.class_pool.specs.Resolution.{first}
use Rattle.link_check.specs.bodies.Tested.{AreTested}
use Rattle.link_check.specs.Profile.{faults_of}
use Rattle.link_check.proofs.First.{first_from}
use Rattle.link_check.proofs.rules.profile.first_fault.Given as goal

abbrev pub invariant-loop-number : goal.invariant-loop-number
invariant-loop-number l = record {
  tested : AreTested l.set l.tested.items;
  fault : first (flat_map (λ p. faults_of l.set p.0 p.1) (enumerate_from 0 l.set))
      ≡ first_from (λ p. first (faults_of l.set p.0 p.1)) 0 l.set l.number;
}
