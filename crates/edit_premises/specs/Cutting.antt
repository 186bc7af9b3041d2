-- A code without stores to local variables that nothing loads (the project's own).
use Rattle.std.specs.Prelude.{◌≡◌, ℕ, ◌+◌, ℤ, List, ◌∷◌, Option, Some, Bool, true, false, slice_get}
use Rattle.std.specs.List.{AllByRecursion}
use Rattle.std.specs.Option.{option_and_then}
use Rattle.class_model.specs.declared.code.Code.{Code}
use Rattle.class_model.specs.declared.code.Handler.{Handler}
use Rattle.class_model.specs.declared.code.Ins.{Ins}
use Rattle.class_model.specs.declared.op.Kind.{Kind}
use Rattle.class_model.specs.declared.op.Op.{Op}
use Rattle.class_model.specs.declared.op.Op.TheVariants as op
use Rattle.code_edit.specs.Flow.{targets}
use Rattle.code_edit.specs.Slots.{is_push, pop_of}
use Rattle.jvm_model.specs.Mapped.{OptionCorr}
use Rattle.jvm_model.specs.State.{Body}
use Rattle.jvm_model.specs.Value.{Value, as_int}

-- Slots that are loaded, slots of which a store goes, and indices of stores that go with the push
-- before them.
module _ (loaded lost takes : ℕ → Bool) where
  -- What stands in place of an operation: itself; nothing, for a push whose store follows, for that
  -- store, and for an increment; and a pop for any other store.
  pub data CutOp (at : ℕ) (o o' : Op) : Type 0 where
    stays : takes at ≡ false → takes (at + 1) ≡ false → o' ≡ o
        → ((k : Kind) (slot : ℕ) → o ≡ op.Load k slot → loaded slot ≡ true)
        → ((slot : ℕ) (z : ℤ) → o ≡ op.Inc slot z → lost slot ≡ false) → CutOp at o o'
    pushes : takes at ≡ false → takes (at + 1) ≡ true → is_push o ≡ true → o' ≡ op.Nop
        → CutOp at o o'
    stores : takes at ≡ true → takes (at + 1) ≡ false → (k : Kind) (slot : ℕ) → o ≡ op.Store k slot
        → loaded slot ≡ false → lost slot ≡ true → o' ≡ op.Nop → CutOp at o o'
    pops : takes at ≡ false → takes (at + 1) ≡ false → (k : Kind) (slot : ℕ) → o ≡ op.Store k slot
        → loaded slot ≡ false → lost slot ≡ true → o' ≡ pop_of k → CutOp at o o'
    adds : takes at ≡ false → takes (at + 1) ≡ false → (slot : ℕ) (z : ℤ) → o ≡ op.Inc slot z
        → loaded slot ≡ false → o' ≡ op.Nop → CutOp at o o'

  -- the same of an instruction, whose line stays
  abbrev pub CutIns : ℕ → Ins → Ins → Type 0
  CutIns at i j = (j.line ≡ i.line) × CutOp at i.op j.op

  -- slots that are loaded are equal, and those of which no store goes hold an int at the same time
  pub record AreAlike (a b : ℕ → Option Value) : Type 0 where
    pub equal : (slot : ℕ) → loaded slot ≡ true → b slot ≡ a slot
    pub ints : (slot : ℕ) → lost slot ≡ false → (i : ℤ) → option_and_then as_int (a slot) ≡ Some i
        → (j : ℤ) × (option_and_then as_int (b slot) ≡ Some j)

  -- before a store that goes with its push the old stack has one value more
  abbrev pub StackAlike : Bool → List Value → List Value → Type 0
  StackAlike true s t = (v : Value) × (s ≡ v ∷ t)
  StackAlike false s t = t ≡ s

  -- bodies at one index
  abbrev pub AtOne : ℕ → Body → Body → Type 0
  AtOne n f g =
      (g.at ≡ f.at) × AreAlike f.locals g.locals × StackAlike (takes f.at) f.stack g.stack

-- a code in place of which the other one may stand
pub record Cuts (old new : Code) : Type 0 where
  pub loaded : ℕ → Bool
  pub lost : ℕ → Bool
  pub takes : ℕ → Bool
  pub first : takes 0 ≡ false
  pub ins : (at : ℕ)
      → OptionCorr (CutIns loaded lost takes at) (slice_get old.ins at) (slice_get new.ins at)
  pub jump : (at : ℕ) (i : Ins) → slice_get old.ins at ≡ Some i
      → AllByRecursion (λ t. takes t ≡ false) (targets i.op)
  pub entry : AllByRecursion (λ (h : Handler). takes h.entry ≡ false) old.handlers
  pub handlers : new.handlers ≡ old.handlers
