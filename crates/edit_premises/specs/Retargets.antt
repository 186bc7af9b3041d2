-- A code whose branches go past gotos, or that has no branch to the next instruction (the project's
-- own).
use Rattle.std.specs.Prelude.{◌≡◌, ℕ, ◌+◌, slice_get}
use Rattle.class_model.specs.declared.code.Code.{Code}
use Rattle.class_model.specs.declared.code.Ins.{Ins}
use Rattle.class_model.specs.declared.op.Op.{Op}
use Rattle.class_model.specs.declared.op.Op.TheVariants as op
use Rattle.code_edit.specs.Jumps.{Leads, LeadsTo}
use Rattle.edit_premises.specs.Aims.{OpAims}
use Rattle.jvm_model.specs.Mapped.{OptionCorr}
use Rattle.jvm_model.specs.State.{Body}

-- a branch leads to the next index, and what takes its operands stands in its place
abbrev pub Falls : Code → ℕ → Op → Op → Type 0
Falls c at (op.Goto t) o = LeadsTo c t (at + 1) × (o ≡ op.Nop)
Falls c at (op.IfZero x t) o = LeadsTo c t (at + 1) × (o ≡ op.Pop)
Falls c at (op.IfNull x t) o = LeadsTo c t (at + 1) × (o ≡ op.Pop)
Falls c at (op.IfCmp x t) o = LeadsTo c t (at + 1) × (o ≡ op.Pop2)
Falls c at (op.IfRef x t) o = LeadsTo c t (at + 1) × (o ≡ op.Pop2)
Falls c at o o' = ⊥

-- what stands in place of an operation
pub data Retargeted (c : Code) (at : ℕ) (o o' : Op) : Type 0 where
  goes_past : OpAims (LeadsTo c) (Unit {0}) o o' → Retargeted c at o o'
  falls : Falls c at o o' → Retargeted c at o o'

-- the same of an instruction, whose line stays
abbrev pub InsRetargeted : Code → ℕ → Ins → Ins → Type 0
InsRetargeted c at i j = (j.line ≡ i.line) × Retargeted c at i.op j.op

pub record Retargets (old new : Code) : Type 0 where
  pub ins : (at : ℕ)
      → OptionCorr (InsRetargeted old at) (slice_get old.ins at) (slice_get new.ins at)
  pub handlers : new.handlers ≡ old.handlers

-- the old body is so many gotos before the new one
abbrev pub Before : Code → ℕ → Body → Body → Type 0
Before c n f g = Leads c n f.at g.at × (g ≡ record f { at = g.at })
