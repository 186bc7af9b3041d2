-- Codes that name nothing but what another one names (the project's own).
use Rattle.std.specs.Prelude.{◌≡◌, ℕ, Bool, true, false, List, Option, Some, slice_get}
use Rattle.std.specs.List.{AllByRecursion}
use Rattle.class_model.specs.declared.code.Code.{Code}
use Rattle.class_model.specs.declared.code.Handler.{Handler}
use Rattle.class_model.specs.declared.code.Ins.{Ins}
use Rattle.class_model.specs.declared.op.Op.{Op}
use Rattle.class_model.specs.declared.op.Op.TheVariants as op

-- an instruction that names no class and no member (JVMS 6.5)
abbrev pub names_nothing : Op → Bool
names_nothing (op.GetStatic r) = false
names_nothing (op.PutStatic r) = false
names_nothing (op.GetField r) = false
names_nothing (op.PutField r) = false
names_nothing (op.InvokeVirtual r) = false
names_nothing (op.InvokeSpecial r) = false
names_nothing (op.InvokeStatic r) = false
names_nothing (op.InvokeInterface r) = false
names_nothing (op.New name) = false
names_nothing (op.NewArray b) = false
names_nothing (op.ANewArray ty) = false
names_nothing (op.CheckCast ty) = false
names_nothing (op.InstanceOf ty) = false
names_nothing (op.MultiNewArray ty n) = false
names_nothing _ = true

-- an operation is one of these instructions, or names nothing
pub data IsOpOf (ins : List Ins) (o : Op) : Type 0 where
  plain : names_nothing o ≡ true → IsOpOf ins o
  there : (k : ℕ) (i : Ins) → slice_get ins k ≡ Some i → i.op ≡ o → IsOpOf ins o

-- one of these handlers catches this
abbrev pub IsCaughtIn : List Handler → Option (List ℕ) → Type 0
IsCaughtIn handlers caught =
    (k : ℕ) × (h : Handler) × (slice_get handlers k ≡ Some h) × (h.caught ≡ caught)

-- a code names nothing but what another one names, its frames aside
pub record NamesNoMore (old new : Code) : Type 0 where
  pub ins : AllByRecursion (λ (i : Ins). IsOpOf old.ins i.op) new.ins
  pub handlers : AllByRecursion (λ (h : Handler). IsCaughtIn old.handlers h.caught) new.handlers
