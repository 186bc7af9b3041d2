use Rattle.std.proofs.Common.{◌≡◌, ℕ, Option, Some}
use Rattle.class_model.specs.declared.class.Field.{Field}
use Rattle.link_check.specs.declared.fault.ProfileFault.{ProfileFault}
use Rattle.link_check.specs.Profile.{fault_at, kinds_of_field}
use Rattle.link_check.proofs.First.{first_from}
use Rattle.link_check.proofs.rules.profile.field_fault.Given as goal

abbrev pub invariant-loop-index : goal.invariant-loop-index
invariant-loop-index l =
    let fault : ℕ × Field → Option ProfileFault = λ p. fault_at l.number (Some p.0)
    (kinds_of_field l.set l.number l.class p.0 p.1) in
    first_from fault 0 l.class.fields 0 ≡ first_from fault 0 l.class.fields l.index
