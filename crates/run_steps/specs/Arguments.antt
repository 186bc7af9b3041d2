-- Operands by a descriptor (JVMS 4.3.3, 6.5).
use Rattle.std.specs.Prelude.{◌≡◌, Bool, List, Option, Some, None, if◌then◌else◌}
use Rattle.class_model.specs.declared.op.Kind.{Kind}
use Rattle.jvm_model.specs.Instructions.{Request, taking, with_receiver}
use Rattle.jvm_model.specs.Value.{Value}
use Rattle.run_steps.specs.declared.descriptors.Kinds.{Kinds}
use Rattle.run_steps.specs.declared.descriptors.Kinds.TheVariants as given

-- the computational types
abbrev pub kinds_told : Kinds → List Kind
kinds_told (given.Kept kinds) = kinds.now
kinds_told (given.Made kinds) = kinds

-- the computational types of a receiver and arguments, or of arguments alone
abbrev pub operand_kinds : (has_receiver : Bool) → Option (List Kind) → Option (List Kind)
operand_kinds has_receiver kinds = if has_receiver then with_receiver kinds else kinds

-- whatever they are for, the operands of these computational types were taken, or they are none
abbrev pub TakesOperands : Option (List Value) → Option (List Kind) → (before after : List Value) → Type 0
TakesOperands None kinds before after = (ask : List Value → Request) → taking kinds ask before ≡ None
TakesOperands (Some vs) kinds before after =
    (ask : List Value → Request) → taking kinds ask before ≡ Some (ask vs, after)
