-- What is left out of a sound code so that it stays sound (the project's own).
use Rattle.std.specs.Prelude.{◌≡◌, ◌<◌, ◌≤◌, ℕ, ◌+◌, Some, Bool, true, length, slice_get}
use Rattle.std.specs.List.{AllByRecursion}
use Rattle.class_model.specs.declared.code.Code.{Code}
use Rattle.class_model.specs.declared.code.Handler.{Handler}
use Rattle.class_model.specs.declared.code.Ins.{Ins}
use Rattle.code_edit.specs.Flow.{covers, goes_elsewhere, targets}

-- an index lives, at another one or behind it
abbrev pub LivesFrom : (ℕ → Bool) → ℕ → ℕ → Type 0
LivesFrom lives n at = (to : ℕ) × (at ≤ to) × (to < n) × (lives to ≡ true)

-- Something lives; where an instruction lives, something does at each target or behind it, and at
-- the entry of each handler that covers it; and behind the last one that lives control doesn't go
-- on.
pub record LeavesSound (lives : ℕ → Bool) (code : Code) : Type 0 where
  pub some : LivesFrom lives (length code.ins) 0
  pub jump : (at : ℕ) (i : Ins) → slice_get code.ins at ≡ Some i → lives at ≡ true
      → AllByRecursion (λ t. LivesFrom lives (length code.ins) t) (targets i.op)
  pub entry : AllByRecursion (λ (h : Handler). (at : ℕ) → at < length code.ins → lives at ≡ true
      → covers h at ≡ true → LivesFrom lives (length code.ins) h.entry) code.handlers
  pub last : (at : ℕ) (i : Ins) → slice_get code.ins at ≡ Some i → lives at ≡ true
      → (LivesFrom lives (length code.ins) (at + 1) → ⊥) → goes_elsewhere i.op ≡ true
