-- Which frames fit the lists of frames by which their methods are typed (JVMS 4.10.1.4, 4.10.1.6).
use Rattle.std.specs.Prelude.{◌≡◌, ◌⊎◌, ◌+◌, ℕ, IsTrue, List, length, Option, Some, None, slice_get}
use Rattle.std.specs.Option.{option_map}
use Rattle.std.specs.List.{AllZip}
use Rattle.class_model.specs.Frames.{vtype_of}
use Rattle.class_model.specs.declared.class.Class.{Class}
use Rattle.class_model.specs.declared.frame.VType.{VType}
use Rattle.class_model.specs.declared.frame.VType.TheVariants as vtype
use Rattle.class_pool.specs.declared.id.ClassId.TheVariants.{Prog}
use Rattle.jvm_model.specs.Heap.{Object}
use Rattle.jvm_model.specs.Local.{called_with}
use Rattle.jvm_model.specs.State.{Body, Frame}
use Rattle.jvm_model.specs.Value.{Key, Value}
use Rattle.set_view.specs.ViewOf.{member_of, view_of}
use Rattle.type_verifier.specs.declared.frame.TypeFrame.{TypeFrame}
use Rattle.type_verifier.specs.Assignable.{is_frame_assignable}
use Rattle.type_verifier.specs.Effects.{gives}
use Rattle.type_verifier.specs.Environment.{Environment, initial_frame}
use Rattle.type_verifier.specs.Typed.{AreInstructionsTyped}
use Rattle.fit_laws.specs.Values.{FitsValue}

-- ---- one frame of the list

-- what a local holds fits its type; where it holds nothing the type is Top (JVMS 2.6.1)
abbrev pub FitsSlot : Environment → List Object → VType → Option Value → Type 0
FitsSlot env heap ty None = ty ≡ vtype.Top
FitsSlot env heap ty (Some v) = FitsValue env heap ty v

-- the locals fit; those that the list doesn't tell may hold anything (JVMS 2.6.1, 4.10.1.4)
abbrev pub FitsLocals : Environment → List Object → List VType → (ℕ → Option Value) → Type 0
FitsLocals env heap types locals =
    (slot : ℕ) (ty : VType) → slice_get types slot ≡ Some ty → FitsSlot env heap ty (locals slot)

-- the stack has as many items and each fits, the top first on both sides (JVMS 2.6.2, 4.10.1.4)
abbrev pub FitsStack : Environment → List Object → List VType → List Value → Type 0
FitsStack env heap types stack = AllZip (FitsValue env heap) types stack

-- a body fits a frame of the type checker (JVMS 4.10.1.4)
pub record FitsBody (env : Environment) (heap : List Object) (f : TypeFrame) (b : Body) : Type 0 where
  pub locals : FitsLocals env heap f.locals b.locals
  pub stack : FitsStack env heap f.stack b.stack

-- a frame is another one or is assignable to it (JVMS 4.10.1.4, frameIsAssignable)
abbrev pub Flows : List Class → TypeFrame → TypeFrame → Type 0
Flows classes f g = (g ≡ f) ⊎ IsTrue (is_frame_assignable classes f g)

-- a frame flows to the one before the instruction with this number (JVMS 4.10.1.6)
abbrev pub Leads : List Class → List TypeFrame → ℕ → TypeFrame → Type 0
Leads classes frames to f = (g : TypeFrame) × (slice_get frames to ≡ Some g) × Flows classes f g

-- ---- methods

module _ (classes : List Class) where
  -- a method of the set by its key, as the type checker sees it, with the list of frames by which its code is typed
  -- (JVMS 4.10.1.1, 4.10.1.6)
  pub record Environs (k : Key) (env : Environment) : Type 0 where
    -- the class and the method by their numbers (JVMS 4.1, 4.6)
    pub classes_are : env.classes ≡ classes
    pub class_there : slice_get classes env.own ≡ Some env.class
    pub method_there : slice_get env.class.methods env.number ≡ Some env.method
    pub code_there : env.method.code ≡ Some env.code
    -- the key leads to it, and to its code
    pub member :
        member_of classes k ≡ Some (record { class = Prog env.own; index = length env.class.fields + env.number })
    pub code : (view_of classes).code k ≡ Some env.code
    -- one frame before each instruction (JVMS 4.10.1.6, mergedCodeIsTypeSafe)
    pub frames : List TypeFrame
    pub typed : AreInstructionsTyped env 0 (Some (initial_frame env)) env.code.ins frames None

-- the type of a method's result, if it has one (JVMS 4.3.3)
abbrev pub result_of : Environment → Option VType
result_of env = option_map vtype_of env.method.ty.ret

-- ---- frames of the machine

-- a frame of a typed method, below its code's length; its locals fit those of the list where it stands. This is all
-- that is known of a frame at whose instruction an object is thrown (JVMS 2.10: handlers begin with its locals)
pub record Stands (classes : List Class) (heap : List Object) (f : Frame) : Type 0 where
  pub env : Environment
  pub is : Environs classes f.method env
  pub here : TypeFrame
  pub there : slice_get is.frames f.body.at ≡ Some here
  pub locals : FitsLocals env heap here.locals f.body.locals

-- a frame whose stack fits too: one that runs, or that does its instruction when a class is initialised (JVMS 5.5)
pub record FitsFrame (classes : List Class) (heap : List Object) (f : Frame) : Type 0 where
  pub stands : Stands classes heap f
  pub stack : FitsStack stands.env heap stands.here.stack f.body.stack

-- A frame that waits for a result of this type, or for none, at an instruction whose operands it has given up: it fits
-- a frame that, with the result, flows to the next instruction. Which instruction that is isn't said: all that a callee
-- has to agree in is the type of the result (JVMS 2.6.4, 4.10.1.9).
pub record Awaits (classes : List Class) (heap : List Object) (given : Option VType) (f : Frame) : Type 0 where
  pub stands : Stands classes heap f
  pub rest : TypeFrame
  pub fits : FitsBody stands.env heap rest f.body
  pub goes_on : Leads classes stands.is.frames (f.body.at + 1) (gives given rest)

-- a method that may begin with these arguments, and gives a result of this type, or none (JVMS 2.6.1, 4.10.1.6)
pub record Begins (classes : List Class) (heap : List Object) (given : Option VType) (k : Key) (args : List Value)
    : Type 0 where
  pub env : Environment
  pub is : Environs classes k env
  pub fits : FitsBody env heap (initial_frame env) (called_with args)
  pub result : result_of env ≡ given
