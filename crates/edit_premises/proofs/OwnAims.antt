-- Where control goes from an instruction, and what it does to slots, told of its sort.
use Rattle.std.proofs.Common.{ℕ, List, [], ◌∷◌, Option, Some, None, false}
use Rattle.std.proofs.Common.{◌≡◌, refl}
use Rattle.std.specs.Prelude.{ℤ, map}
use Rattle.std.specs.List.{AllZip, Contains}
use Rattle.std.proofs.lemmas.List.Elements.{Contains-append_right, Contains-push}
use Rattle.std.proofs.lemmas.List.Elements.{Contains-append_left}
use Rattle.class_model.specs.declared.op.ArithOp.{ArithOp}
use Rattle.class_model.specs.declared.op.ArithOp.TheVariants as arith
use Rattle.class_model.specs.declared.op.Case.{Case}
use Rattle.class_model.specs.declared.op.ConvOp.{ConvOp}
use Rattle.class_model.specs.declared.op.ConvOp.TheVariants as conv
use Rattle.class_model.specs.declared.op.Num.{Num}
use Rattle.class_model.specs.declared.op.Op.{Op}
use Rattle.class_model.specs.declared.op.Op.TheVariants as op
use Rattle.jvm_model.specs.Instructions.{Sort, Stores, Incs}
use Rattle.jvm_model.specs.Instructions.{arithmetic, conversion, sort_of}
use Rattle.code_edit.specs.Facts.{change_of}
use Rattle.code_edit.specs.Flow.{goes_elsewhere, targets}
use Rattle.code_edit.specs.declared.change.Change.{Change}
use Rattle.code_edit.specs.declared.change.Change.TheVariants.{Keeps}
use Rattle.edit_premises.specs.Aims.{CaseAims, OpAims}

-- where the cases of a lookupswitch lead
abbrev case_targets : List Case → List ℕ
case_targets cases = map (λ (c : Case). c.to) cases

pub head_in : (t : ℕ) (ts : List ℕ) → Contains (t ∷ ts) t
head_in t ts = Contains-append_left (t ∷ []) ts t (Contains-push [] t)

pub tail_in : (t : ℕ) (ts : List ℕ) (u : ℕ) → Contains ts u → Contains (t ∷ ts) u
tail_in t ts u h = Contains-append_right (t ∷ []) ts u h

module _ (P : ℕ → Type 0) (N : Type 0) where
  abbrev To : ℕ → ℕ → Type 0
  To t u = (u ≡ t) × P t

  table_own : (ts : List ℕ) → ((t : ℕ) → Contains ts t → P t) → AllZip To ts ts
  table_own [] h = tt
  table_own (t ∷ ts) h = ((refl, h t (head_in t ts)), table_own ts (λ u k. h u (tail_in t ts u k)))

  cases_own : (cs : List Case) → ((t : ℕ) → Contains (case_targets cs) t → P t)
      → AllZip (CaseAims To N) cs cs
  cases_own [] h = tt
  cases_own (c ∷ cs) h = (
    (refl, (refl, h c.to (head_in c.to (case_targets cs)))),
    cases_own cs
        (λ u k. h u (tail_in c.to (case_targets cs) u k)),
  )

  pub own_aims : (o : Op) → ((t : ℕ) → Contains (targets o) t → P t)
      → (goes_elsewhere o ≡ false → N) → OpAims To N o o
  own_aims (op.IfZero x t) h n = (t, refl, (refl, h t (head_in t [])), n refl)
  own_aims (op.IfCmp x t) h n = (t, refl, (refl, h t (head_in t [])), n refl)
  own_aims (op.IfRef x t) h n = (t, refl, (refl, h t (head_in t [])), n refl)
  own_aims (op.IfNull x t) h n = (t, refl, (refl, h t (head_in t [])), n refl)
  own_aims (op.Goto t) h n = (t, refl, (refl, h t (head_in t [])))
  own_aims (op.TableSwitch low t ts) h n =
      (t, ts, refl, (refl, h t (head_in t ts)), table_own ts (λ u k. h u (tail_in t ts u k)))
  own_aims (op.LookupSwitch t cs) h n = (
    t,
    cs,
    refl,
    (refl, h t (head_in t (case_targets cs))),
    cases_own cs
        (λ u k. h u (tail_in t (case_targets cs) u k)),
  )
  own_aims (op.Return x) h n = refl
  own_aims op.Throw h n = refl
  own_aims o h n = (refl, n refl)

-- what an instruction of a sort does to a slot
abbrev pub SortChange : Sort → Option ℤ → ℕ → Change → Type 0
SortChange (Stores k x) pushed slot ch = ch ≡ change_of (op.Store k x) pushed slot
SortChange (Incs x z) pushed slot ch = ch ≡ change_of (op.Inc x z) pushed slot
SortChange s pushed slot ch = ch ≡ Keeps

arith_change : (o : ArithOp) (n : Num) (pushed : Option ℤ) (slot : ℕ)
    → SortChange (arithmetic o n) pushed slot Keeps
arith_change arith.Add n pushed slot = refl
arith_change arith.Sub n pushed slot = refl
arith_change arith.Mul n pushed slot = refl
arith_change arith.Div n pushed slot = refl
arith_change arith.Rem n pushed slot = refl

conv_change : (o : ConvOp) (pushed : Option ℤ) (slot : ℕ)
    → SortChange (conversion o) pushed slot Keeps
conv_change conv.I2l pushed slot = refl
conv_change conv.L2i pushed slot = refl
conv_change conv.I2b pushed slot = refl
conv_change conv.I2c pushed slot = refl
conv_change conv.I2s pushed slot = refl

pub sort_change : (o : Op) (pushed : Option ℤ) (slot : ℕ)
    → SortChange (sort_of o) pushed slot (change_of o pushed slot)
sort_change (op.Arith o n) pushed slot = arith_change o n pushed slot
sort_change (op.Conv o) pushed slot = conv_change o pushed slot
sort_change (op.Return None) pushed slot = refl
sort_change (op.Return (Some k)) pushed slot = refl
sort_change o pushed slot = refl
