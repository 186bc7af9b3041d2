-- The slots that int branches ask for, and those that folds take, are listed.
use Rattle.std.proofs.Common.{◌≡◌, ◌≢◌, inl, inr, ⊎_elim, ℕ, zero, suc, ◌+◌, ◌-◌, ◌<◌, ℤ, List, [], ◌∷◌}
use Rattle.std.proofs.Common.{length, refl, sym, ap, subst, ◌∙◌, arith, Option, Some, None}
use Rattle.std.specs.Prelude.{slice_get}
use Rattle.std.proofs.lemmas.Bool.{cases_eq}
use Rattle.std.proofs.lemmas.Option.{same_Some, slice_get_within}
use Rattle.class_model.specs.declared.code.Code.{Code}
use Rattle.class_model.specs.declared.code.Ins.{Ins}
use Rattle.class_model.specs.declared.op.Kind.TheVariants as kind
use Rattle.class_model.specs.declared.op.Op.{Op}
use Rattle.class_model.specs.declared.op.Op.TheVariants as op
use Rattle.code_edit.specs.ConstEdits.{AreSlots, IsAsked, IsLoad, IsTaken, TakesFrom, fold_target}
use Rattle.code_edit.specs.Deciding.{Count, NoOperand, OneOperand, TwoOperands, operands}
use Rattle.found_laws.proofs.Listing.{OrNot, both_or, either_or, listed_slots, or_not_as}
use Rattle.found_laws.proofs.Listing.{some_or}

-- ---- operations

load_or : (o : Op) (slot : ℕ) → OrNot (o ≡ op.Load kind.Int slot)
load_or (op.Load kind.Int from) slot =
    or_not_as (λ e. ap (op.Load kind.Int) e) (λ e. cc) (cases_eq from slot)
load_or o slot = inr (λ e. cc)

-- a number above each slot that the operation loads an int from
load_bound : (o : Op) → (bound : ℕ) × ((slot : ℕ) → o ≡ op.Load kind.Int slot → slot < bound)
load_bound (op.Load kind.Int from) =
    (suc from, λ slot e. let same : from ≡ slot = cc in omega (arith, same))
load_bound o = (0, λ slot e. absurd cc)

bound_of : (ins : List Ins)
    → (bound : ℕ) × ((at slot : ℕ) (i : Ins) → slice_get ins at ≡ Some i
    → i.op ≡ op.Load kind.Int slot → slot < bound)
bound_of [] = (0, λ at slot i here e. absurd cc)
bound_of (i ∷ ins) =
    let one = load_bound i.op in let rest = bound_of ins in
    (one.0 + rest.0, by one.0 one.1 rest.0 rest.1)
  where
    by : (m : ℕ) → ((slot : ℕ) → i.op ≡ op.Load kind.Int slot → slot < m) → (n : ℕ)
        → ((at slot : ℕ) (j : Ins) → slice_get ins at ≡ Some j → j.op ≡ op.Load kind.Int slot → slot < n)
        → (at slot : ℕ) (j : Ins) → slice_get (i ∷ ins) at ≡ Some j → j.op ≡ op.Load kind.Int slot
        → slot < m + n
    by m one n rest zero slot j here e =
        let lt = one slot (ap (λ (x : Ins). x.op) (same_Some i j here) ∙ e) in omega (arith, lt)
    by m one n rest (suc at) slot j here e = let lt = rest at slot j here e in omega (arith, lt)

none_or : (c : Count) → OrNot (c ≢ NoOperand)
none_or NoOperand = inr (λ other. other refl)
none_or OneOperand = inl (λ e. cc)
none_or TwoOperands = inl (λ e. cc)

two_or : (c : Count) → OrNot (c ≡ TwoOperands)
two_or NoOperand = inr (λ e. cc)
two_or OneOperand = inr (λ e. cc)
two_or TwoOperands = inl refl

some_int_or : (o : Option ℕ) → OrNot ((to : ℕ) × (o ≡ Some to))
some_int_or None = inr (λ h. let q : None ≡ Some h.0 = h.1 in cc)
some_int_or (Some to) = inl (to, refl)

module _ (code : Code) where
  -- ---- the instruction at an index

  -- it is there and has the property
  abbrev HasIns : (Ins → Type 0) → ℕ → Type 0
  HasIns Has at = (i : Ins) × (slice_get code.ins at ≡ Some i) × Has i

  ins_or : (Has : Ins → Type 0) → ((i : Ins) → OrNot (Has i)) → (at : ℕ) → OrNot (HasIns Has at)
  ins_or Has test at = by (slice_get code.ins at) refl
    where
      by : (o : Option Ins) → slice_get code.ins at ≡ o → OrNot (HasIns Has at)
      by None e = inr (λ h. let q : None ≡ Some h.0 = sym e ∙ h.1 in cc)
      by (Some i) e =
          or_not_as (λ has. (i, e, has))
          (λ h. subst Has (same_Some h.0 i (sym h.1 ∙ e)) h.2) (test i)

  is_load_or : (slot at : ℕ) → OrNot (IsLoad code slot at)
  is_load_or slot at = ins_or (λ i. i.op ≡ op.Load kind.Int slot) (λ i. load_or i.op slot) at

  takes_or : (slot at : ℕ) (i : Ins) → OrNot (TakesFrom code at i slot)
  takes_or slot at i =
      either_or (is_load_or slot (at - 1))
      (both_or (two_or (operands i.op)) (is_load_or slot (at - 2)))

  abbrev bound : ℕ
  bound = (bound_of code.ins).0

  load_low : (slot at : ℕ) → IsLoad code slot at → slot < bound
  load_low slot at h = (bound_of code.ins).1 at slot h.0 h.1 h.2

  takes_low : (slot at : ℕ) (i : Ins) → TakesFrom code at i slot → slot < bound
  takes_low slot at i h =
      ⊎_elim (λ l. load_low slot (at - 1) l) (λ l. load_low slot (at - 2) l.1) h

  -- ---- asked

  abbrev AsksAt : ℕ → ℕ → Type 0
  AsksAt slot at = HasIns (λ i. (operands i.op ≢ NoOperand) × TakesFrom code at i slot) at

  asked_or : (slot : ℕ) → OrNot (IsAsked code slot)
  asked_or slot =
      or_not_as (λ h. (h.0, h.2.0, h.2.1, h.2.2.0, h.2.2.1))
      (λ h. (h.0, slice_get_within code.ins h.0 h.1 h.2, (h.1, h.2, (h.3, h.4))))
      (some_or (AsksAt slot)
      (λ at. ins_or (λ i. (operands i.op ≢ NoOperand) × TakesFrom code at i slot)
      (λ i. both_or (none_or (operands i.op)) (takes_or slot at i)) at) (length code.ins))

  pub some_asked : (slots : List ℕ) × AreSlots (IsAsked code) slots
  some_asked = listed_slots (IsAsked code) asked_or bound (λ slot h. takes_low slot h.0 h.1 h.4)

  -- ---- taken

  module _ (known : ℕ → List (Option ℤ)) where
    abbrev TakenAt : ℕ → ℕ → Type 0
    TakenAt slot at = HasIns (λ i. ((to : ℕ) × (fold_target known code at ≡ Some to))
        × TakesFrom code at i slot) at

    taken_or : (slot : ℕ) → OrNot (IsTaken known code slot)
    taken_or slot =
        or_not_as (λ h. (h.0, h.2.2.0.0, h.2.0, h.2.1, h.2.2.0.1, h.2.2.1))
        (λ h. (h.0, slice_get_within code.ins h.0 h.2 h.3, (h.2, h.3, ((h.1, h.4), h.5))))
        (some_or (TakenAt slot)
        (λ at. ins_or (λ i. ((to : ℕ) × (fold_target known code at ≡ Some to))
        × TakesFrom code at i slot)
        (λ i. both_or (some_int_or (fold_target known code at)) (takes_or slot at i)) at)
        (length code.ins))

    pub some_taken : (slots : List ℕ) × AreSlots (IsTaken known code) slots
    some_taken = listed_slots (IsTaken known code) taken_or bound
        (λ slot h. takes_low slot h.0 h.2 h.5)
