-- Going over a code, from its first instruction on (only the proof of the walk needs it: `Typed` has what it means).
use Rattle.std.specs.Prelude.{ℕ, ◌+◌, ◌-◌, List, [], ◌∷◌, Option, Some, None, Result, Ok, Err}
use Rattle.class_model.specs.declared.code.Ins.{Ins}
use Rattle.type_verifier.specs.declared.fault.TypeFault.{TypeFault}
use Rattle.type_verifier.specs.declared.fault.TypeKind.{TypeKind}
use Rattle.type_verifier.specs.declared.fault.TypeKind.TheVariants.{FallsOff}
use Rattle.type_verifier.specs.declared.frame.TypeFrame.{TypeFrame}
use Rattle.type_verifier.specs.Environment.{Environment, initial_frame}
use Rattle.type_verifier.specs.Walk.{at_instruction, fault_at}

module _ (env : Environment) where
  -- nothing flows on behind the last instruction
  abbrev pub behind_last : ℕ → Option TypeFrame → Result (Unit {0}) TypeFault
  behind_last at (Some f) = Err (fault_at env (at - 1) FallsOff)
  behind_last at None = Ok tt

  -- what an instruction gives, and then the others
  abbrev pub gone_on : ℕ → Result (Option TypeFrame) TypeKind → (Option TypeFrame → Result (Unit {0}) TypeFault)
      → Result (Unit {0}) TypeFault
  gone_on at (Ok flow) others = others flow
  gone_on at (Err kind) others = Err (fault_at env at kind)

  -- the first fault from an instruction on, by what flows into it
  unfoldable pub walked : ℕ → Option TypeFrame → List Ins → Result (Unit {0}) TypeFault
  walked at flow [] = behind_last at flow
  walked at flow (i ∷ ins) = gone_on at (at_instruction env at i.op flow) (λ next. walked (at + 1) next ins)

  -- the first fault of the code
  abbrev pub code_checked : Result (Unit {0}) TypeFault
  code_checked = walked 0 (Some (initial_frame env)) env.code.ins
