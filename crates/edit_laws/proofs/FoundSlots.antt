-- What slots finds is legal.
use Rattle.std.proofs.Common.{ℕ, zero, suc, ◌+◌, ◌<◌, ◌≤◌, List, [], ◌∷◌, Some, Bool, true}
use Rattle.std.proofs.Common.{false, ◌≡◌, ◌≢◌, ◌⊎◌, inl, inr, refl, sym, ap, ◌∙◌, subst, arith}
use Rattle.std.specs.Prelude.{nat_eq, not, slice_get, ◌==◌, if◌then◌else◌}
use Rattle.std.specs.List.{list_any}
use Rattle.std.proofs.lemmas.Bool.Decides.{eqb_tells}
use Rattle.class_model.specs.declared.code.Code.{Code}
use Rattle.class_model.specs.declared.code.Ins.{Ins}
use Rattle.class_model.specs.declared.op.Op.{Op}
use Rattle.class_model.specs.declared.op.Op.TheVariants as op
use Rattle.code_edit.specs.declared.act.Act.{Act}
use Rattle.code_edit.specs.declared.act.Act.TheVariants as act
use Rattle.code_edit.specs.declared.act.Pass.TheVariants as pass
use Rattle.code_edit.specs.Legal.{AreLegal, IsLegalAt, share_place}
use Rattle.code_edit.specs.Passes.{cuts_from, is_unused, slots_edits}
use Rattle.code_edit.specs.Slots.{IsCutOp, cuts, is_cut, is_loaded}
use Rattle.code_edit.specs.SoundCode.{IsSound}
use Rattle.edit_premises.proofs.LastStays.{slots_keep_last}
use Rattle.edit_laws.proofs.FoundReach.{left_or, right_or}

pub differ : (a b : ℕ) → a < b → (a == b) ≡ false
differ a b lt = by (eqb_tells a b)
  where
    by : ((nat_eq a b ≡ true) × (a ≡ b)) ⊎ ((nat_eq a b ≡ false) × (a ≢ b)) → nat_eq a b ≡ false
    by (inl q) = absurd (omega (arith, lt, q.1))
    by (inr q) = q.0

pub itself : (a : ℕ) → (a == a) ≡ true
itself a = by (eqb_tells a a)
  where
    by : ((nat_eq a a ≡ true) × (a ≡ a)) ⊎ ((nat_eq a a ≡ false) × (a ≢ a)) → nat_eq a a ≡ true
    by (inl q) = q.0
    by (inr q) = absurd (q.1 refl)

un_not : (b : Bool) → not b ≡ true → b ≡ false
un_not true e = absurd cc
un_not false e = refl

module _ (code : Code) where
  -- the instruction of an index may be cut
  abbrev Unused : ℕ → Type 0
  Unused at = (i : Ins) × (slice_get code.ins at ≡ Some i) × (is_unused code i.op ≡ true)

  -- cuts of such indices, ascending from one on
  abbrev AreCuts : ℕ → List Act → Type 0
  AreCuts low [] = Unit {0}
  AreCuts low (act.Cut at ∷ acts) = (low ≤ at) × Unused at × AreCuts (at + 1) acts
  AreCuts low (a ∷ acts) = ⊥

  -- these are the instructions from an index on
  abbrev AreRest : ℕ → List Ins → Type 0
  AreRest k ins =
      (j : ℕ) (i : Ins) → slice_get ins j ≡ Some i → slice_get code.ins (k + j) ≡ Some i

  rest_next : (k : ℕ) (x : Ins) (ins : List Ins) → AreRest k (x ∷ ins) → AreRest (suc k) ins
  rest_next k x ins rest j i e =
      let z : suc k + j ≡ k + suc j = omega arith in
      ap (slice_get code.ins) z ∙ rest (suc j) i e

  here : (k : ℕ) (x : Ins) (ins : List Ins) → AreRest k (x ∷ ins)
      → slice_get code.ins k ≡ Some x
  here k x ins rest =
      let z : k ≡ k + 0 = omega arith in ap (slice_get code.ins) z ∙ rest 0 x refl

  cuts_are : (ins : List Ins) (k low : ℕ) → low ≤ k → AreRest k ins
      → AreCuts low (cuts_from code k ins)
  cuts_are [] k low le rest = tt
  cuts_are (x ∷ ins) k low le rest =
      by (is_unused code x.op) refl
      (λ low' le'. cuts_are ins (suc k) low' le' (rest_next k x ins rest))
    where
      by : (b : Bool) → is_unused code x.op ≡ b
          → ((low' : ℕ) → low' ≤ suc k → AreCuts low' (cuts_from code (suc k) ins))
          → AreCuts low (if b then act.Cut k ∷ cuts_from code (suc k) ins
          else cuts_from code (suc k) ins)
      by true e more = (le, (x, here k x ins rest, e), more (k + 1) (omega arith))
      by false e more = more low (omega (arith, le))

  -- each such index is cut
  all_cut : (ins : List Ins) (k j : ℕ) (i : Ins) → slice_get ins j ≡ Some i
      → is_unused code i.op ≡ true → list_any (cuts (k + j)) (cuts_from code k ins) ≡ true
  all_cut [] k j i e u = absurd cc
  all_cut (x ∷ ins) k zero i e u =
      let same : i ≡ x = cc in
      let z : k + 0 ≡ k = omega arith in
      ap (λ b. list_any (cuts (k + 0))
      (if b then act.Cut k ∷ cuts_from code (suc k) ins else cuts_from code (suc k) ins))
      (ap (λ (y : Ins). is_unused code y.op) (sym same) ∙ u)
      ∙ left_or (k + 0 == k) (list_any (cuts (k + 0)) (cuts_from code (suc k) ins))
      (ap (λ m. m == k) z ∙ itself k)
  all_cut (x ∷ ins) k (suc j) i e u =
      by (is_unused code x.op) (all_cut ins (suc k) j i e u)
    where
      z : suc k + j ≡ k + suc j
      z = omega arith

      by : (b : Bool) → list_any (cuts (suc k + j)) (cuts_from code (suc k) ins) ≡ true
          → list_any (cuts (k + suc j))
          (if b then act.Cut k ∷ cuts_from code (suc k) ins else cuts_from code (suc k) ins)
          ≡ true
      by true rest =
          right_or (k + suc j == k) (list_any (cuts (k + suc j)) (cuts_from code (suc k) ins))
          (ap (λ m. list_any (cuts m) (cuts_from code (suc k) ins)) (sym z) ∙ rest)
      by false rest = ap (λ m. list_any (cuts m) (cuts_from code (suc k) ins)) (sym z) ∙ rest

  one_cut : (acts : List Act) (low j : ℕ) (a : Act) → AreCuts low acts
      → slice_get acts j ≡ Some a → (at : ℕ) × (a ≡ act.Cut at) × (low ≤ at) × Unused at
  one_cut [] low j a are e = absurd cc
  one_cut (act.Cut at ∷ acts) low zero a are e =
      let same : act.Cut at ≡ a = cc in (at, sym same, are.0, are.1)
  one_cut (act.Cut at ∷ acts) low (suc j) a are e =
      let x = one_cut acts (at + 1) j a are.2 e in
      (x.0, x.1, omega (arith, x.2, are.0), x.3)
  one_cut (act.Drop from to ∷ acts) low j a are e = absurd are
  one_cut (act.Fact from to slot value ∷ acts) low j a are e = absurd are
  one_cut (act.Fold at to ∷ acts) low j a are e = absurd are
  one_cut (act.Aim at which to ∷ acts) low j a are e = absurd are
  one_cut (act.Skip at ∷ acts) low j a are e = absurd are

  apart : (acts : List Act) (low i j : ℕ) (a b : Act) → AreCuts low acts → i < j
      → slice_get acts i ≡ Some b → slice_get acts j ≡ Some a → share_place b a ≡ false
  apart [] low i j a b are lt p q = absurd cc
  apart (act.Cut place ∷ acts) low zero zero a b are lt p q = absurd (omega (arith, lt))
  apart (act.Cut place ∷ acts) low zero (suc j) a b are lt p q =
      let x = one_cut acts (place + 1) j a are.2 q in
      let same : act.Cut place ≡ b = cc in
      (λ i. share_place (sym same i) (x.1 i)) ∙ differ place x.0 (omega (arith, x.2))
  apart (act.Cut place ∷ acts) low (suc i) zero a b are lt p q = absurd (omega (arith, lt))
  apart (act.Cut place ∷ acts) low (suc i) (suc j) a b are lt p q =
      apart acts (place + 1) i j a b are.2 (omega (arith, lt)) p q
  apart (act.Drop from to ∷ acts) low i j a b are lt p q = absurd are
  apart (act.Fact from to slot value ∷ acts) low i j a b are lt p q = absurd are
  apart (act.Fold at to ∷ acts) low i j a b are lt p q = absurd are
  apart (act.Aim at which to ∷ acts) low i j a b are lt p q = absurd are
  apart (act.Skip at ∷ acts) low i j a b are lt p q = absurd are

  -- ---- legal

  abbrev found : List Act
  found = slots_edits code

  whole : AreRest 0 code.ins
  whole j i e = let z : 0 + j ≡ j = omega arith in ap (slice_get code.ins) z ∙ e

  are : AreCuts 0 found
  are = cuts_are code.ins 0 0 (omega arith) whole

  cut_op : (o : Op) → is_unused code o ≡ true → IsCutOp found code o
  cut_op (op.Store kind slot) u = (
    un_not (is_loaded code slot) u,
    λ at i z e o.
        let same : 0 + at ≡ at = omega arith in
        ap (is_cut found) (sym same)
        ∙ all_cut code.ins 0 at i e (ap (is_unused code) o ∙ u),
  )
  cut_op (op.Inc slot z) u = un_not (is_loaded code slot) u
  cut_op o u = absurd cc

  pub slots_legal : IsSound code → AreLegal pass.Slots found code
  slots_legal sound k a e =
      let x = one_cut found 0 k a are e in
      subst (IsLegalAt pass.Slots found code k) (sym x.1) (
        (x.3.0, x.3.1, cut_op x.3.0.op x.3.2),
        λ j b lt q. ap (share_place b) (sym x.1) ∙ apart found 0 j k a b are lt q e,
        slots_keep_last found code sound (act.Cut x.0),
      )
