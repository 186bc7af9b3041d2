-- The numbers and texts of an instruction are those that its type in the code can hold
-- (the project's own: the code's numbers and texts are bounded).
use Rattle.std.specs.Prelude.{◌^◌, ◌<◌, IsUtf8}
use Rattle.std.specs.Int.{w16, w32}
use Rattle.std.specs.Int.RustNames.{FitsSigned}
use Rattle.std.specs.List.{AllByRecursion}
use Rattle.jv_base.specs.declared.types.Base.{Base}
use Rattle.jv_base.specs.declared.types.Base.TheVariants as base
use Rattle.class_model.specs.declared.op.MemberRef.{MemberRef}
use Rattle.class_model.specs.declared.op.Case.{Case}
use Rattle.class_model.specs.declared.op.Op.{Op}
use Rattle.class_model.specs.declared.op.Op.TheVariants as op

-- the name of a class is a text
abbrev pub IsBaseValue : Base → Type 0
IsBaseValue (base.Class name) = IsUtf8 name
IsBaseValue _ = Unit {0}

-- the names in a reference are texts
pub record IsReferenceValue (reference : MemberRef) : Type 0 where
  pub class : IsBaseValue reference.class.base
  pub name : IsUtf8 reference.name
  pub descriptor : IsUtf8 reference.ty

-- numbers and texts of an instruction are in range; a number that every spelling can write needs no bound
abbrev pub IsOpValue : Op → Type 0
IsOpValue (op.Load k slot) = slot < 2 ^ 16
IsOpValue (op.Store k slot) = slot < 2 ^ 16
IsOpValue (op.Inc slot delta) = (slot < 2 ^ 16) × FitsSigned w16 delta
IsOpValue (op.TableSwitch low other cases) = FitsSigned w32 low
IsOpValue (op.LookupSwitch other cases) = AllByRecursion (λ (c : Case). FitsSigned w32 c.key) cases
IsOpValue (op.GetStatic reference) = IsReferenceValue reference
IsOpValue (op.PutStatic reference) = IsReferenceValue reference
IsOpValue (op.GetField reference) = IsReferenceValue reference
IsOpValue (op.PutField reference) = IsReferenceValue reference
IsOpValue (op.InvokeVirtual reference) = IsReferenceValue reference
IsOpValue (op.InvokeSpecial reference) = IsReferenceValue reference
IsOpValue (op.InvokeStatic reference) = IsReferenceValue reference
IsOpValue (op.InvokeInterface reference) = IsReferenceValue reference
IsOpValue (op.ANewArray ty) = IsBaseValue ty.base
IsOpValue (op.CheckCast ty) = IsBaseValue ty.base
IsOpValue (op.InstanceOf ty) = IsBaseValue ty.base
IsOpValue (op.MultiNewArray ty dimensions) = IsBaseValue ty.base
IsOpValue _ = Unit {0}
