-- Where a reference tells no type, no rule is right.
use Rattle.std.proofs.Common.{Option, Err, sym, ap, ◌∙◌}
use Rattle.std.specs.Option.{option_map}
use Rattle.jv_base.specs.Outcome.{FaultIs}
use Rattle.jv_base.specs.declared.outcome.Or.{Or}
use Rattle.jv_base.specs.declared.outcome.Or.TheVariants as or
use Rattle.type_verifier.specs.declared.fault.TypeKind.{TypeKind}
use Rattle.type_verifier.specs.declared.frame.TypeFrame.{TypeFrame}
use Rattle.type_verifier.specs.Effects.{Checked, if_ruled}
use Rattle.type_verifier.specs.Environment.{Environment}
use Rattle.type_verifier.specs.Rules.{Rule}
use Rattle.type_verifier.specs.bodies.Changes.{Tells}

pub no_rule : {T : Type 0} (env : Environment) (rule : T → Rule) (told : Option T) (f : TypeFrame) (e : Or TypeKind)
    → Tells (Err e) told → FaultIs e (if_ruled env 0 (option_map rule told) f)
no_rule {T} env rule told f (or.Fault kind) h =
    ap (λ (o : Option T). if_ruled env 0 (option_map rule o) f) h.1
    ∙ ap (λ (k : TypeKind). let r : Checked = Err k in r) (sym h.0)
no_rule env rule told f or.OutOfMemory h = tt
