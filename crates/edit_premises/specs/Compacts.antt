-- What may be left out of a code: what control never reaches, and instructions that do nothing (the
-- project's own).
use Rattle.std.specs.Prelude.{◌≡◌, ℕ, ◌+◌, ◌-◌, ◌<◌, Some, Bool, true, false, length, slice_get}
use Rattle.std.specs.List.{AllByRecursion}
use Rattle.class_model.specs.declared.code.Code.{Code}
use Rattle.class_model.specs.declared.code.Handler.{Handler}
use Rattle.class_model.specs.declared.code.Ins.{Ins}
use Rattle.class_model.specs.declared.op.Op.TheVariants as op
use Rattle.code_edit.specs.Flow.{covers, goes_elsewhere, targets}
use Rattle.code_edit.specs.Rewriting.{compacted, place}
use Rattle.jvm_model.specs.State.{Body}

-- indices that hold the first one, and with each of them those to which control goes from there
pub record IsClosed (code : Code) (reached : ℕ → Bool) : Type 0 where
  pub first : reached 0 ≡ true
  pub next : (at : ℕ) (i : Ins) → reached at ≡ true → slice_get code.ins at ≡ Some i
      → goes_elsewhere i.op ≡ false → at + 1 < length code.ins → reached (at + 1) ≡ true
  pub jump : (at : ℕ) (i : Ins) → reached at ≡ true → slice_get code.ins at ≡ Some i
      → AllByRecursion (λ t. reached t ≡ true) (targets i.op)
  pub entry : AllByRecursion (λ (h : Handler). (at : ℕ) → at < length code.ins → reached at ≡ true
      → covers h at ≡ true → reached h.entry ≡ true) code.handlers

-- a code without instructions that aren't reached or do nothing
pub record Compacts (old new : Code) : Type 0 where
  pub lives : ℕ → Bool
  pub reached : ℕ → Bool
  pub closed : IsClosed old reached
  pub nops : (at : ℕ) (i : Ins) → reached at ≡ true → lives at ≡ false
      → slice_get old.ins at ≡ Some i → i.op ≡ op.Nop
  pub is : new ≡ compacted lives old

-- a body that stands at a reached index, and the same body in the new code; the number falls as the
-- index rises
abbrev pub AtPlace : (old : Code) (lives reached : ℕ → Bool) → ℕ → Body → Body → Type 0
AtPlace old lives reached n f g =
    (n ≡ length old.ins - f.at) × (f.at < length old.ins → reached f.at ≡ true)
    × (g ≡ record f { at = place lives f.at })
