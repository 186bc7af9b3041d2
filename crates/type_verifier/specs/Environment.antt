-- What the rules look at beside a frame (JVMS 4.10.1.1, 4.10.1.6: Environment).
use Rattle.std.specs.Prelude.{ℕ, Bool, true, false, ◌==◌, ◌||◌, nat_eq, List, [], ◌∷◌, map, Option}
use Rattle.std.specs.List.{find, list_any}
use Rattle.std.specs.Option.{option_map}
use Rattle.class_model.specs.Flags.{is_init, is_static}
use Rattle.class_model.specs.Frames.{initial_locals}
use Rattle.class_model.specs.declared.class.Class.{Class}
use Rattle.class_model.specs.declared.class.Method.{Method}
use Rattle.class_model.specs.declared.code.Code.{Code}
use Rattle.class_model.specs.declared.code.Handler.{Handler}
use Rattle.class_model.specs.declared.code.Ins.{Ins}
use Rattle.class_model.specs.declared.frame.FrameAt.{FrameAt}
use Rattle.class_model.specs.declared.frame.VType.{VType}
use Rattle.class_model.specs.declared.frame.VType.TheVariants as vtype
use Rattle.class_model.specs.declared.op.Case.{Case}
use Rattle.class_model.specs.declared.op.Op.{Op}
use Rattle.class_model.specs.declared.op.Op.TheVariants as op
use Rattle.type_verifier.specs.declared.frame.TypeFrame.{TypeFrame}
use Rattle.type_verifier.specs.Assignable.{class_type}
use Rattle.type_verifier.specs.Frames.{declared_frame, framed}

-- a method of a class of the set, and the code that is looked at as that method's (JVMS 4.10.1.1, 4.10.1.6)
pub record Environment : Type 0 where
  pub classes : List Class
  -- the number of the class, and the class itself
  pub own : ℕ
  pub class : Class
  -- the number of the method among those of the class, and the method itself
  pub number : ℕ
  pub method : Method
  pub code : Code

-- ---- instructions

-- where control may go from an instruction, the next one aside (JVMS 4.10.1.9)
abbrev pub targets : Op → List ℕ
targets (op.IfZero c to) = to ∷ []
targets (op.IfCmp c to) = to ∷ []
targets (op.IfRef eq to) = to ∷ []
targets (op.IfNull null to) = to ∷ []
targets (op.Goto to) = to ∷ []
targets (op.TableSwitch low other cases) = other ∷ cases
targets (op.LookupSwitch other cases) = other ∷ map (λ (c : Case). c.to) cases
targets _ = []

-- control never goes on to the next instruction (JVMS 4.10.1.6, afterGoto)
abbrev pub goes_elsewhere : Op → Bool
goes_elsewhere (op.Goto to) = true
goes_elsewhere (op.TableSwitch low other cases) = true
goes_elsewhere (op.LookupSwitch other cases) = true
goes_elsewhere (op.Return kind) = true
goes_elsewhere op.Throw = true
goes_elsewhere _ = false

-- the instruction is a target, or begins a handler (JVMS 4.10.1.6, targetIsTypeSafe)
abbrev pub is_entered : Code → ℕ → Bool
is_entered code at = list_any (λ (i : Ins). list_any (nat_eq at) (targets i.op)) code.ins
    || list_any (λ (h : Handler). nat_eq at h.entry) code.handlers

module _ (env : Environment) where
  -- the type of the own class (JVMS 4.10.1.1, thisClass)
  abbrev pub own_type : VType
  own_type = vtype.Object (class_type env.class.name)

  -- the method is a constructor (JVMS 2.9, isInit)
  abbrev pub in_constructor : Bool
  in_constructor = is_init env.method.name

  -- the frame before the first instruction (JVMS 4.10.1.6, methodInitialStackFrame)
  abbrev pub initial_frame : TypeFrame
  initial_frame = framed env.code.max_locals
      (initial_locals env.class.name (is_static env.method.flags.0) env.method.name env.method.ty) []

  -- the frame that is declared at an instruction (JVMS 4.7.4, 4.10.1.6)
  abbrev pub declared_frame_at : ℕ → Option TypeFrame
  declared_frame_at at = option_map (λ (f : FrameAt). declared_frame env.code.max_locals f.frame)
      (find (λ (f : FrameAt). f.index == at) env.code.frames)
