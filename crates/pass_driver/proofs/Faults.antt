-- A code that is refused isn't typed.
use Rattle.std.proofs.Common.{◌≡◌, ℕ, List, subst, Err}
use Rattle.jv_base.specs.declared.outcome.Or.{Or}
use Rattle.jv_base.specs.declared.outcome.Or.TheVariants.{Fault}
use Rattle.class_model.specs.declared.class.Class.{Class}
use Rattle.class_model.specs.declared.code.Code.{Code}
use Rattle.pass_driver.specs.Outcomes.{IsTypedWith}
use Rattle.type_verifier.specs.Environment.{Environment}
use Rattle.type_verifier.specs.Typed.{IsFirstFault, Typed}
use Rattle.type_verifier.specs.Verified.{JudgesMethod, environment}
use Rattle.type_verifier.specs.WithCode.{set_with_code}
use Rattle.type_verifier.specs.declared.fault.TypeFault.{TypeFault}

-- no code is typed and has a first fault
abbrev pub NeverBoth : Type 0
NeverBoth = (env : Environment) (fault : TypeFault) → Typed env → IsFirstFault env fault → ⊥

pub refused : NeverBoth → (classes : List Class) (own number : ℕ) (code : Code) (e : Or TypeFault) (fault : TypeFault)
    → e ≡ Fault fault → JudgesMethod (Err e) (set_with_code classes own number code) own number
    → IsTypedWith classes own number code → ⊥
refused never classes own number code e fault is judged typed =
    let set = set_with_code classes own number code in
    let h = subst (λ (x : Or TypeFault). JudgesMethod (Err x) set own number) is judged in
    never (environment set own h.0 number h.2 h.4) fault (typed h.0 h.1 h.2 h.3 h.4 h.5) h.6
