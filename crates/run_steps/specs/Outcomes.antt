-- What a frame of the code does, as what one of the machine does (JVMS 6.5).
use Rattle.std.specs.Prelude.{◌≡◌, List, [], ◌∷◌, ◌++◌, Option, Some, None, Result, IfOk, IfSome, reverse}
use Rattle.jv_base.specs.declared.outcome.OutOfMemory.{OutOfMemory}
use Rattle.jvm_model.specs.Exceptions.{Arithmetic}
use Rattle.jvm_model.specs.Instructions.{Request as Asked, Sort}
use Rattle.jvm_model.specs.Instructions as asked
use Rattle.jvm_model.specs.Local.{Ends, Local, Moves, Stuck, Tosses, Wants, by_sort}
use Rattle.jvm_model.specs.Value.{Value}
use Rattle.run_steps.specs.Frames.{body_of}
use Rattle.run_steps.specs.declared.body.Body.{Body}
use Rattle.run_steps.specs.declared.outcome.Outcome.{Outcome}
use Rattle.run_steps.specs.declared.outcome.Outcome.TheVariants as outcome
use Rattle.run_steps.specs.declared.outcome.Request.{Request}
use Rattle.run_steps.specs.declared.outcome.Request.TheVariants as request

-- what is asked
abbrev pub request_of : Request → Asked
request_of (request.Known v) = asked.Known v
request_of request.DividesByZero = asked.Raise Arithmetic
request_of (request.GetStatic r) = asked.GetStatic r.now
request_of (request.PutStatic r v) = asked.PutStatic r.now v
request_of (request.GetField r v) = asked.GetField r.now v
request_of (request.PutField r v x) = asked.PutField r.now v x
request_of (request.CallStatic r args) = asked.CallStatic r.now args
request_of (request.CallSpecial r args) = asked.CallSpecial r.now args
request_of (request.CallVirtual r args) = asked.CallVirtual r.now args
request_of (request.CallInterface r args) = asked.CallInterface r.now args
request_of (request.New class) = asked.New class.now
request_of (request.NewBaseArray b n) = asked.NewArray (record { dims = 0; base = b.now }) n
request_of (request.NewArray ty n) = asked.NewArray ty.now n
request_of (request.NewArrays ty sizes) = asked.NewArrays ty.now sizes
request_of (request.ArrayLength v) = asked.ArrayLength v
request_of (request.GetAt e v i) = asked.GetAt e v i
request_of (request.PutAt e v i x) = asked.PutAt e v i x
request_of (request.Cast ty v) = asked.Cast ty.now v
request_of (request.Test ty v) = asked.Test ty.now v

-- what the frame does, by what it is afterwards
abbrev pub local_of : Outcome → (after : Body) → Local
local_of outcome.Moves after = Moves (body_of after)
local_of (outcome.Wants r) after = Wants (request_of r) after.stack
local_of (outcome.Ends v) after = Ends v
local_of (outcome.Tosses v) after = Tosses v
local_of outcome.Stuck after = Stuck

-- the operands, the top first, of a request before which a class may have to be initialised (JVMS 5.5)
abbrev pub operands_of : Request → Option (List Value)
operands_of (request.GetStatic r) = Some []
operands_of (request.PutStatic r v) = Some (v ∷ [])
operands_of (request.CallStatic r args) = Some (reverse args)
operands_of (request.New class) = Some []
operands_of _ = None

-- the frame stands where it stood, with the same local variables and without these operands
abbrev pub IsWithout : List Value → (before after : Body) → Type 0
IsWithout vs before after =
    (after.at ≡ before.at) × (after.locals ≡ before.locals) × (before.stack ≡ vs ++ after.stack)

-- A frame that asks waits where it stood, and its local variables are as they were. So does one that throws. Where a
-- class may have to be initialised first, and of the reference that is thrown, it is told which operands were taken.
abbrev pub Waits : Outcome → (before after : Body) → Type 0
Waits (outcome.Wants r) before after = (after.at ≡ before.at) × (after.locals ≡ before.locals)
    × IfSome (operands_of r) (λ vs. before.stack ≡ vs ++ after.stack)
Waits (outcome.Tosses v) before after = IsWithout (v ∷ []) before after
Waits _ before after = Unit {0}

-- it does what is due
abbrev pub Does : Outcome → (before after : Body) → (due : Local) → Type 0
Does o before after due = (local_of o after ≡ due) × Waits o before after

-- it does what a frame does at an instruction of a sort, unless memory was wanting
abbrev pub DoesAs : Result Outcome OutOfMemory → (before after : Body) → Sort → Type 0
DoesAs result before after sort = IfOk result (λ o. Does o before after (by_sort (body_of before) sort))
