-- A code in which branches on constants are decided, all indices being as they were (the project's
-- own).
use Rattle.std.specs.Prelude.{◌≡◌, ◌⊎◌, ℕ, ◌+◌, ℤ, IsTrue, List, [], ◌∷◌, ◌++◌, map, Option, Some}
use Rattle.std.specs.Prelude.{slice_get}
use Rattle.std.specs.List.{All, AllByRecursion}
use Rattle.std.specs.Option.{unwrap_or}
use Rattle.class_model.specs.declared.code.Code.{Code}
use Rattle.class_model.specs.declared.code.Handler.{Handler}
use Rattle.class_model.specs.declared.code.Ins.{Ins}
use Rattle.class_model.specs.declared.op.Kind.TheVariants as kind
use Rattle.class_model.specs.declared.op.Op.{Op}
use Rattle.class_model.specs.declared.op.Op.TheVariants as op
use Rattle.code_edit.specs.Deciding.{decided}
use Rattle.code_edit.specs.Facts.{Facts, IsSupported}
use Rattle.code_edit.specs.Flow.{targets}
use Rattle.edit_premises.specs.Keeping.{Holds}
use Rattle.jvm_model.specs.Mapped.{OptionCorr}
use Rattle.jvm_model.specs.State.{Body}
use Rattle.jvm_model.specs.Value.{Int}

-- what stands in place of a branch at an index that leads to another one
abbrev pub Lands : ℕ → ℕ → Op → Type 0
Lands at to o = (o ≡ op.Goto to) ⊎ ((to ≡ at + 1) × (o ≡ op.Nop))

-- Facts, and for each index the operands that the old stack has more there, the top first.
module _ (facts : ℕ → Facts) (extra : ℕ → List ℤ) where
  -- what stands in place of an operation: itself; nothing, for an operand; and a goto or nothing,
  -- for a branch or switch
  pub data FoldOp (at : ℕ) (o o' : Op) : Type 0 where
    stays : extra at ≡ [] → extra (at + 1) ≡ [] → o' ≡ o → FoldOp at o o'
    pushes : (z : ℤ) → o ≡ op.PushInt z → extra (at + 1) ≡ z ∷ extra at → o' ≡ op.Nop
        → FoldOp at o o'
    loads : (slot : ℕ) (z : ℤ) → o ≡ op.Load kind.Int slot → IsTrue (facts slot at z)
        → extra (at + 1) ≡ z ∷ extra at → o' ≡ op.Nop → FoldOp at o o'
    goes : (p : Option ℕ) → decided o (extra at) ≡ Some p → extra (unwrap_or p (at + 1)) ≡ []
        → Lands at (unwrap_or p (at + 1)) o' → FoldOp at o o'

  -- the same of an instruction, whose line stays
  abbrev pub FoldIns : ℕ → Ins → Ins → Type 0
  FoldIns at i j = (j.line ≡ i.line) × FoldOp at i.op j.op

  -- bodies at one index
  abbrev pub AtFold : ℕ → Body → Body → Type 0
  AtFold n f g =
      (g.at ≡ f.at) × (g.locals ≡ f.locals) × (f.stack ≡ map Int (extra f.at) ++ g.stack)

-- a code in place of which the other one may stand
pub record Folds (old new : Code) : Type 0 where
  pub facts : ℕ → Facts
  pub extra : ℕ → List ℤ
  pub supported : (slot : ℕ) → IsSupported old slot (facts slot)
  pub first : extra 0 ≡ []
  pub ins : (at : ℕ)
      → OptionCorr (FoldIns facts extra at) (slice_get old.ins at) (slice_get new.ins at)
  pub jump : (at : ℕ) (i : Ins) → slice_get old.ins at ≡ Some i
      → All (λ t. extra t ≡ []) (targets i.op)
  pub entry : AllByRecursion (λ (h : Handler). extra h.entry ≡ []) old.handlers
  pub handlers : new.handlers ≡ old.handlers

-- bodies at one index, of which the facts of the old one hold
abbrev pub AtFolded : Code → (ℕ → Facts) → (ℕ → List ℤ) → ℕ → Body → Body → Type 0
AtFolded old facts extra n f g = Holds old facts f × AtFold facts extra n f g
