-- The method of a fault is one of its class.
use Rattle.std.proofs.Common.{◌≡◌, ◌<◌, ◌+◌, ℕ, List, length, slice_get, Some, subst, sym, ◌∙◌, arith}
use Rattle.std.proofs.lemmas.Option.{same_Some, slice_get_within}
use Rattle.class_model.specs.declared.class.Class.{Class}
use Rattle.type_verifier.specs.Verified.{IsPlace}
use Rattle.type_verifier.specs.declared.fault.TypeFault.{TypeFault}

pub method_within : (classes : List Class) (fault : TypeFault) (c : Class) → IsPlace classes fault
    → slice_get classes fault.class ≡ Some c → fault.method < length c.methods
method_within classes fault c (d, there, m, at) is =
    subst (λ (e : Class). fault.method < length e.methods) (same_Some d c (sym there ∙ is))
    (slice_get_within d.methods fault.method m at)
