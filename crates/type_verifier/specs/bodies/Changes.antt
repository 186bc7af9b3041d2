-- What a step on a frame answers, and how it leaves the frame (only the proof of the bodies needs it). Behind a fault
-- nothing is said of the frame.
use Rattle.std.specs.Prelude.{◌≡◌, ℕ, Bool, true, false, Option, Some, None, Result, Ok, Err}
use Rattle.jv_base.specs.Outcome.{Gives}
use Rattle.jv_base.specs.declared.outcome.Or.{Or}
use Rattle.jv_base.specs.declared.outcome.Or.TheVariants as or
use Rattle.type_verifier.specs.declared.fault.TypeKind.{TypeKind}
use Rattle.type_verifier.specs.declared.fault.TypeKind.TheVariants.{Operand}
use Rattle.type_verifier.specs.declared.frame.TypeFrame.{TypeFrame}
use Rattle.type_verifier.specs.declared.fault.TypeFault.{TypeFault}
use Rattle.type_verifier.specs.Effects.{Checked}
use Rattle.type_verifier.specs.Environment.{Environment}
use Rattle.type_verifier.specs.Walk.{fault_at}

-- the frame that is due, or the fault
abbrev pub After : Result (Unit {0}) TypeKind → TypeFrame → Checked → Type 0
After (Ok _) new due = due ≡ Ok new
After (Err kind) new due = due ≡ Err kind

-- the same where memory may be wanting
abbrev pub AfterOr : {T : Type 0} → Result T (Or TypeKind) → TypeFrame → Checked → Type 0
AfterOr result new due = Gives (λ _. new) result due

-- a frame that flows on, or nothing
abbrev pub flow : Bool → TypeFrame → Option TypeFrame
flow true f = Some f
flow false f = None

-- whether a frame flows on, and which, or the fault
abbrev pub FlowsOr : Result Bool (Or TypeKind) → TypeFrame → Result (Option TypeFrame) TypeKind → Type 0
FlowsOr result new due = Gives (λ flows. flow flows new) result due

-- a fault with the number of its instruction
abbrev pub placed : Environment → ℕ → Or TypeKind → Or TypeFault
placed env at (or.Fault kind) = or.Fault (fault_at env at kind)
placed env at or.OutOfMemory = or.OutOfMemory

-- the type that a reference tells, or that no operand is right where its descriptor is none
abbrev pub Tells : {T : Type 0} → Result T (Or TypeKind) → Option T → Type 0
Tells (Ok ty) told = told ≡ Some ty
Tells (Err (or.Fault kind)) told = (kind ≡ Operand) × (told ≡ None)
Tells (Err or.OutOfMemory) told = Unit {0}
