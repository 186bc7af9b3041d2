-- What holds of each operation of a code, whatever its targets, and of each class that a handler
-- catches (the project's own).
use Rattle.std.specs.Prelude.{ℕ, List, Option}
use Rattle.std.specs.List.{AllByRecursion}
use Rattle.class_model.specs.declared.code.Code.{Code}
use Rattle.class_model.specs.declared.code.Handler.{Handler}
use Rattle.class_model.specs.declared.code.Ins.{Ins}
use Rattle.class_model.specs.declared.op.Op.{Op}
use Rattle.class_model.specs.declared.op.Op.TheVariants as op
use Rattle.code_edit.specs.Rewriting.{retargeted}

-- a property of operations that doesn't look at targets, and that what the passes put in place has
pub record IsOfNames (Good : Op → Type 0) : Type 0 where
  pub moves : (f : ℕ → ℕ → ℕ) (o : Op) → Good o → Good (retargeted f o)
  pub nop : Good op.Nop
  pub goto : (to : ℕ) → Good (op.Goto to)
  pub pop : Good op.Pop
  pub pop2 : Good op.Pop2

pub record HoldsOf (Good : Op → Type 0) (Caught : Option (List ℕ)
    → Type 0) (code : Code) : Type 0 where
  pub ins : AllByRecursion (λ (i : Ins). Good i.op) code.ins
  pub handlers : AllByRecursion (λ (h : Handler). Caught h.caught) code.handlers
