-- What an instruction makes of what flows into it, and what is wrong with it first (JVMS 4.10.1.6). The faults are told
-- in the order NoFrame, Mismatch, then those of its rule, then Mismatch at a target, and Handler (the project's own).
use Rattle.std.specs.Prelude.{ℕ, Bool, true, not, ◌&&◌, ◌||◌, nat_le, nat_lt, [], ◌∷◌, length}
use Rattle.std.specs.Prelude.{Option, Some, None, Result, Ok, Err, if◌then◌else◌}
use Rattle.std.specs.List.{list_all}
use Rattle.std.specs.Option.{option_map_or}
use Rattle.jv_base.specs.Outcome.{◌>>=◌}
use Rattle.class_model.specs.declared.code.Handler.{Handler}
use Rattle.class_model.specs.declared.frame.VType.{VType}
use Rattle.class_model.specs.declared.op.Op.{Op}
use Rattle.type_verifier.specs.declared.fault.TypeFault.{TypeFault}
use Rattle.type_verifier.specs.declared.fault.TypeKind.{TypeKind}
use Rattle.type_verifier.specs.declared.fault.TypeKind.TheVariants.{NoFrame, Mismatch, Handler as BadHandler}
use Rattle.type_verifier.specs.declared.frame.TypeFrame.{TypeFrame}
use Rattle.type_verifier.specs.Assignable.{is_assignable, is_frame_assignable}
use Rattle.type_verifier.specs.Effects.{Checked, stepped, with_stack}
use Rattle.type_verifier.specs.Environment.{Environment, declared_frame_at, goes_elsewhere, is_entered, targets}
use Rattle.type_verifier.specs.Rules.{class_of, throwable}

-- what flows on to the next instruction, if anything does (JVMS 4.10.1.6, afterGoto)
abbrev pub flow_after : Op → TypeFrame → Option TypeFrame
flow_after op f = if goes_elsewhere op then None else Some f

-- what is caught by a handler; without a class everything thrown is (JVMS 4.10.1.6, handlerExceptionClass)
abbrev pub caught_type : Handler → VType
caught_type h = option_map_or class_of h.caught throwable

-- the handler covers the instruction (JVMS 4.10.1.6, isApplicableHandler)
abbrev pub covers : ℕ → Handler → Bool
covers at h = nat_le h.from at && nat_lt at h.to

module _ (env : Environment) where
  -- ---- frames that flow to other instructions

  -- a frame fits the one that is declared, if one is (JVMS 4.10.1.6, targetIsTypeSafe). Where none is, that is told at
  -- that instruction
  abbrev pub fits_declared : TypeFrame → Option TypeFrame → Bool
  fits_declared f None = true
  fits_declared f (Some d) = is_frame_assignable env.classes f d

  -- there is such an instruction, and a frame fits there (JVMS 4.10.1.6, targetIsTypeSafe)
  abbrev pub fits_at : TypeFrame → ℕ → Bool
  fits_at f to = nat_lt to (length env.code.ins) && fits_declared f (declared_frame_at env to)

  -- a frame fits at each target (JVMS 4.10.1.6, targetIsTypeSafe)
  abbrev pub fits_targets : Op → TypeFrame → Bool
  fits_targets op f = list_all (fits_at f) (targets op)

  -- ---- handlers

  -- what is caught is Throwable or below it, and the locals fit at the handler with it alone on the stack
  -- (JVMS 4.10.1.6, handlerIsLegal, instructionSatisfiesHandler; that frames keep to max_stack is a rule of the format,
  -- JVMS 4.7.4); no handler covers a constructor before its object is initialised (the project's own, in place of
  -- initHandlerIsLegal of JVMS 4.10.1.6)
  abbrev pub satisfies : TypeFrame → Handler → Bool
  satisfies f h = not f.marked
      && is_assignable env.classes (caught_type h) throwable
      && fits_at (with_stack f (caught_type h ∷ [])) h.entry

  -- each handler that covers the instruction (JVMS 4.10.1.6, instructionSatisfiesHandlers)
  abbrev pub satisfies_handlers : ℕ → TypeFrame → Bool
  satisfies_handlers at f = list_all (λ h. not (covers at h) || satisfies f h) env.code.handlers

  -- ---- one instruction

  -- the frame before an instruction: the one that is declared, which what flows in fits, else what flows in; a target,
  -- the beginning of a handler, and an instruction into which nothing flows need one
  -- (JVMS 4.10.1.6, mergedCodeIsTypeSafe)
  abbrev pub arrived : ℕ → Option TypeFrame → Option TypeFrame → Checked
  arrived at (Some f) (Some d) = if is_frame_assignable env.classes f d then Ok d else Err Mismatch
  arrived at None (Some d) = Ok d
  arrived at (Some f) None = if is_entered env.code at then Err NoFrame else Ok f
  arrived at None None = Err NoFrame

  -- what flows on from the frame before an instruction and that behind it, where those fit elsewhere
  -- (JVMS 4.10.1.6, targetIsTypeSafe, instructionSatisfiesHandlers)
  abbrev pub flowed : ℕ → Op → TypeFrame → TypeFrame → Result (Option TypeFrame) TypeKind
  flowed at op before after =
      if not (fits_targets op after) then Err Mismatch
      else if not (satisfies_handlers at before) then Err BadHandler
      else Ok (flow_after op after)

  -- an instruction, by the frame before it (JVMS 4.10.1.6, mergedCodeIsTypeSafe)
  abbrev pub instruction_checked : ℕ → Op → TypeFrame → Result (Option TypeFrame) TypeKind
  instruction_checked at op f = stepped env at op f >>= flowed at op f

  -- an instruction, by what flows into it: what flows on, or the first thing that is wrong
  -- (JVMS 4.10.1.6, mergedCodeIsTypeSafe)
  abbrev pub at_instruction : ℕ → Op → Option TypeFrame → Result (Option TypeFrame) TypeKind
  at_instruction at op flow = arrived at flow (declared_frame_at env at) >>= instruction_checked at op

  -- ---- faults

  -- a fault at an instruction (the project's own: a place is told by numbers)
  abbrev pub fault_at : ℕ → TypeKind → TypeFault
  fault_at at kind = record { class = env.own; method = env.number; index = at; kind = kind }
