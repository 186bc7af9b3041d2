-- Which codes are typed, by a whole list of frames (JVMS 4.10.1), and which fault is the first one.
use Rattle.std.specs.Prelude.{◌≡◌, ◌⊎◌, ℕ, ◌+◌, ◌-◌, false, IsTrue, List, [], ◌∷◌, length, take, slice_get}
use Rattle.std.specs.Prelude.{Option, Some, None, Result, Ok, Err}
use Rattle.jv_base.specs.declared.outcome.Or.{Or}
use Rattle.jv_base.specs.declared.outcome.Or.TheVariants as or
use Rattle.class_model.specs.declared.code.Ins.{Ins}
use Rattle.type_verifier.specs.declared.fault.TypeFault.{TypeFault}
use Rattle.type_verifier.specs.declared.fault.TypeKind.{TypeKind}
use Rattle.type_verifier.specs.declared.fault.TypeKind.TheVariants.{FallsOff}
use Rattle.type_verifier.specs.declared.frame.TypeFrame.{TypeFrame}
use Rattle.type_verifier.specs.Assignable.{is_frame_assignable}
use Rattle.type_verifier.specs.Effects.{stepped}
use Rattle.type_verifier.specs.Environment.{Environment, declared_frame_at, initial_frame, is_entered}
use Rattle.type_verifier.specs.Walk.{at_instruction, fault_at, fits_targets, flow_after, satisfies_handlers}

module _ (env : Environment) where
  -- a frame stands before an instruction: the one that is declared, which what flows in is assignable to, else what
  -- flows in, where nothing but that leads here (JVMS 4.10.1.6, mergedCodeIsTypeSafe)
  abbrev pub Stands : ℕ → Option TypeFrame → Option TypeFrame → TypeFrame → Type 0
  Stands at (Some from) (Some d) f = (f ≡ d) × IsTrue (is_frame_assignable env.classes from d)
  Stands at None (Some d) f = f ≡ d
  Stands at (Some from) None f = (f ≡ from) × (is_entered env.code at ≡ false)
  Stands at None None f = ⊥

  -- one frame before each of these instructions: it stands there, the rule applies to it, what results fits at the
  -- targets, and it fits at the handlers; what results flows on, at the end to what comes behind
  -- (JVMS 4.10.1.6, mergedCodeIsTypeSafe)
  abbrev pub AreInstructionsTyped : ℕ → Option TypeFrame → List Ins → List TypeFrame → Option TypeFrame → Type 0
  AreInstructionsTyped at flow [] [] behind = behind ≡ flow
  AreInstructionsTyped at flow [] (f ∷ fs) behind = ⊥
  AreInstructionsTyped at flow (i ∷ ins) [] behind = ⊥
  AreInstructionsTyped at flow (i ∷ ins) (f ∷ fs) behind =
      Stands at flow (declared_frame_at env at) f
      × (after : TypeFrame) × (stepped env at i.op f ≡ Ok after)
      × IsTrue (fits_targets env i.op after)
      × IsTrue (satisfies_handlers env at f)
      × AreInstructionsTyped (at + 1) (flow_after i.op after) ins fs behind

  -- the code is typed: all its instructions are, from the initial frame on, and nothing flows on behind the last
  -- (JVMS 4.10.1.6, methodWithCodeIsTypeSafe, endOfCode)
  abbrev pub Typed : Type 0
  Typed = (frames : List TypeFrame) × AreInstructionsTyped 0 (Some (initial_frame env)) env.code.ins frames None

  -- the instructions before the one with this number are typed, and this flows into it
  -- (the project's own: which fault is told)
  abbrev pub IsTypedBefore : ℕ → Option TypeFrame → Type 0
  IsTypedBefore at flow = (frames : List TypeFrame)
      × AreInstructionsTyped 0 (Some (initial_frame env)) (take at env.code.ins) frames flow

  -- this is the first thing that is wrong with an instruction, where those before it are typed
  -- (the project's own: which fault is told)
  abbrev pub IsWrongAt : ℕ → TypeKind → Type 0
  IsWrongAt at kind = (i : Ins) × (slice_get env.code.ins at ≡ Some i)
      × (flow : Option TypeFrame) × IsTypedBefore at flow × (at_instruction env at i.op flow ≡ Err kind)

  -- all instructions are typed, and control falls off behind the last, which has this number
  -- (the project's own: which fault is told)
  abbrev pub FallsOffAt : ℕ → Type 0
  FallsOffAt at = (at ≡ length env.code.ins - 1) × (f : TypeFrame) × IsTypedBefore (length env.code.ins) (Some f)

  -- the first fault of the code (the project's own: which fault is told)
  abbrev pub IsFirstFault : TypeFault → Type 0
  IsFirstFault fault = (fault ≡ fault_at env fault.index fault.kind)
      × (IsWrongAt fault.index fault.kind ⊎ ((fault.kind ≡ FallsOff) × FallsOffAt fault.index))

  -- what checking the code answers
  abbrev pub Judges : Result (Unit {0}) (Or TypeFault) → Type 0
  Judges (Ok _) = Typed
  Judges (Err (or.Fault fault)) = IsFirstFault fault
  Judges (Err or.OutOfMemory) = Unit {0}
