-- A code in its canonical spelling, or the limit that it passes (JVMS 4.7.3, 4.9.1).
use Rattle.std.specs.Prelude.{◌≡◌, ℕ, ◌^◌, ◌<◌, ℤ, pos, negsuc, true, false, List, length, take, nat_le}
use Rattle.std.specs.Prelude.{if◌then◌else◌, Option, Some, None, Result, Ok}
use Rattle.class_model.specs.declared.limit.WriteLimit.{WriteLimit}
use Rattle.class_model.specs.declared.limit.WriteLimit.TheVariants.{CodeTooLong}
use Rattle.class_model.specs.declared.op.Op.{Op}
use Rattle.class_model.specs.declared.op.Op.TheVariants as op
use Rattle.class_model.specs.declared.code.Ins.{Ins}
use Rattle.class_model.specs.declared.constant.PoolConstant.{PoolConstant}
use Rattle.class_model.specs.declared.constant.PoolConstant.TheVariants.{Integer, Long, Str}
use Rattle.class_model.specs.CanonicalPool.{class_constant, type_name, fieldref, methodref, index_of}
use Rattle.class_model.specs.CanonicalCode.{is_short, is_lconst, places, code_bytes}
use Rattle.class_model.specs.Between.{int_between}
use Rattle.class_model.specs.InstructionStructure.{Info, Ldc, LdcWide}
use Rattle.class_model.specs.WriteLimits.{fits_u2, branches_fit}
use Rattle.code_write.specs.declared.encoding.Coded.{Coded}
use Rattle.jv_base.specs.Outcome.{◌>>=◌}

-- the places of the instructions of a code that isn't too long, and behind them its length (JVMS 4.7.3)
unfoldable pub placed : List PoolConstant → List Ins → Result (List ℕ) WriteLimit
placed pool ins = do
  short ← fits_u2 (λ n. CodeTooLong n) (length (code_bytes pool (places pool ins) ins))
  Ok (places pool ins)

-- the canonical bytes of instructions with the offset of each, or the first limit that is passed: the length, then the
-- branches (JVMS 4.7.3, 4.9.1; the order of limits is the project's own)
unfoldable pub coded : List PoolConstant → List Ins → Result Coded WriteLimit
coded pool ins = do
  all ← placed pool ins
  near ← branches_fit all 0 ins
  Ok (record { bytes = code_bytes pool all ins; starts = take (length ins) all })

-- ldc, whose index is a byte, or ldc_w (JVMS 6.5)
abbrev pub load_info : ℕ → Info
load_info index = if nat_le index 255 then Ldc index else LdcWide 0x13 index

-- the index of a constant has two bytes, as each index of a class file has (JVMS 4.1, 4.4)
abbrev pub HasIndex : List PoolConstant → PoolConstant → Type 0
HasIndex pool k = index_of pool k < 2 ^ 16

-- so has that of each constant that an instruction names (JVMS 4.4)
abbrev pub HasIndices : List PoolConstant → Op → Type 0
HasIndices pool (op.PushInt n) = is_short n ≡ false → HasIndex pool (Integer n)
HasIndices pool (op.PushLong n) = is_lconst n ≡ false → HasIndex pool (Long n)
HasIndices pool (op.PushText units) = HasIndex pool (Str units)
HasIndices pool (op.GetStatic reference) = HasIndex pool (fieldref reference)
HasIndices pool (op.PutStatic reference) = HasIndex pool (fieldref reference)
HasIndices pool (op.GetField reference) = HasIndex pool (fieldref reference)
HasIndices pool (op.PutField reference) = HasIndex pool (fieldref reference)
HasIndices pool (op.InvokeVirtual reference) = HasIndex pool (methodref reference)
HasIndices pool (op.InvokeSpecial reference) = HasIndex pool (methodref reference)
HasIndices pool (op.InvokeStatic reference) = HasIndex pool (methodref reference)
HasIndices pool (op.InvokeInterface reference) = HasIndex pool (methodref reference)
HasIndices pool (op.New name) = HasIndex pool (class_constant name)
HasIndices pool (op.ANewArray ty) = HasIndex pool (class_constant (type_name ty))
HasIndices pool (op.CheckCast ty) = HasIndex pool (class_constant (type_name ty))
HasIndices pool (op.InstanceOf ty) = HasIndex pool (class_constant (type_name ty))
HasIndices pool (op.MultiNewArray ty dimensions) = HasIndex pool (class_constant (type_name ty))
HasIndices pool _ = Unit {0}

-- a branch leads no further than its two bytes tell (JVMS 6.5)
abbrev pub IsNear : (ℕ → ℤ) → Option ℕ → Type 0
IsNear distance (Some to) = int_between (negsuc 32767) (pos 32767) (distance to) ≡ true
IsNear distance None = Unit {0}
