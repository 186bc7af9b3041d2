use Rattle.std.proofs.Common.{◌≡◌, ℕ, Option, Some, length}
use Rattle.std.specs.List.{enumerate_from, filter_map}
use Rattle.class_model.specs.declared.class.Method.{Method}
use Rattle.class_pool.specs.Resolution.{first}
use Rattle.link_check.specs.declared.fault.ProfileFault.{ProfileFault}
use Rattle.link_check.specs.bodies.Tested.{AreTested}
use Rattle.link_check.specs.Profile.{fault_at, kinds_of_method}
use Rattle.link_check.proofs.First.{first_from}
use Rattle.link_check.proofs.rules.profile.method_fault.Given as goal

abbrev pub invariant-loop-at : goal.invariant-loop-at
invariant-loop-at l =
    let fault : ℕ × Method → Option ProfileFault = λ p. fault_at l.number (Some p.0)
    (kinds_of_method l.set l.number l.class p.0 p.1) in
    record {
      tested : AreTested l.set l.tested.items;
      fault : first (filter_map fault (enumerate_from (length l.class.fields) l.class.methods))
          ≡ first_from fault (length l.class.fields) l.class.methods l.at;
    }
