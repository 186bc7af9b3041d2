-- Classes are judged in two steps: whether they are a set, and whether it breaks a rule for its classes.
use Rattle.std.proofs.Common.{List, Result, Ok, Err, refl, subst, inl, inr}
use Rattle.jv_base.specs.declared.outcome.Or.{Or}
use Rattle.jv_base.specs.declared.outcome.Or.TheVariants as or
use Rattle.class_model.specs.declared.class.Class.{Class}
use Rattle.class_pool.specs.Faults.{Builds}
use Rattle.class_pool.specs.declared.fault.NamedClass.{NamedClass}
use Rattle.set_read.specs.declared.fault.SetFault.{SetFault}
use Rattle.set_read.specs.declared.fault.SetFault.TheVariants.{Format, Rule}
use Rattle.set_read.specs.Accepted.{BreaksClassRule}
use Rattle.set_read.specs.bodies.Steps.{BuildsNamed, Judges, Links}

-- they are no set
pub no_set : (named : List NamedClass) (e : Or SetFault) → BuildsNamed (Err e) named → Judges (Err e) named
no_set named (or.Fault (Format path fault)) h = h
no_set named (or.Fault (Rule told)) h = inl h
no_set named or.OutOfMemory h = tt

-- their set breaks a rule
pub no_links : (classes : List Class) (named : List NamedClass) (e : Or SetFault) → Builds (Ok classes) named
    → Links (Err e) classes → Judges (Err e) named
no_links classes named (or.Fault (Format path fault)) b h = h
no_links classes named (or.Fault (Rule told)) b h =
    inr ((b.0, b.1, refl), subst (λ (cs : List Class). BreaksClassRule cs told) b.2 h)
no_links classes named or.OutOfMemory b h = tt
