-- Codes that control can't leave but by a return or a throw (JVMS 4.9.1, 4.9.2, 4.7.3).
use Rattle.std.specs.Prelude.{◌≡◌, ◌<◌, ◌≤◌, ℕ, ◌+◌, Some, true, length, slice_get}
use Rattle.std.specs.List.{AllByRecursion}
use Rattle.class_model.specs.declared.code.Code.{Code}
use Rattle.class_model.specs.declared.code.Handler.{Handler}
use Rattle.class_model.specs.declared.code.Ins.{Ins}
use Rattle.code_edit.specs.Flow.{goes_elsewhere, targets}

-- a handler's places in a code of n instructions: its range isn't empty, and ends where the code
-- ends or before
abbrev pub IsPlaced : ℕ → Handler → Type 0
IsPlaced n h = (h.from < h.to) × (h.to ≤ n) × (h.entry < n)

-- it has an instruction, targets and handlers stand within it, and the last instruction doesn't go
-- on to the next
pub record IsSound (code : Code) : Type 0 where
  pub some : 0 < length code.ins
  pub jump : (at : ℕ) (i : Ins) → slice_get code.ins at ≡ Some i
      → AllByRecursion (λ t. t < length code.ins) (targets i.op)
  pub handlers : AllByRecursion (IsPlaced (length code.ins)) code.handlers
  pub last : (at : ℕ) (i : Ins) → slice_get code.ins at ≡ Some i → at + 1 ≡ length code.ins
      → goes_elsewhere i.op ≡ true
