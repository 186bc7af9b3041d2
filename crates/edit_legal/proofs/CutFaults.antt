-- Which act of slots is the first that isn't legal.
use Rattle.std.proofs.Common.{ℕ, zero, suc, ◌+◌, ◌<◌, ◌≤◌, ℤ, List, [], ◌∷◌, ◌++◌, Option, Some, None}
use Rattle.std.proofs.Common.{Bool, true, false, ◌≡◌, inl, inr, refl, sym, ap, ◌∙◌, subst}
use Rattle.std.proofs.Common.{arith}
use Rattle.std.specs.Prelude.{length, map, not, slice_get, ◌||◌}
use Rattle.std.specs.List.{list_any}
use Rattle.class_model.specs.declared.code.Code.{Code}
use Rattle.class_model.specs.declared.code.Ins.{Ins}
use Rattle.class_model.specs.declared.op.Op.{Op}
use Rattle.class_model.specs.declared.op.Op.TheVariants as op
use Rattle.code_edit.specs.declared.act.Act.{Act}
use Rattle.code_edit.specs.declared.act.Act.TheVariants as act
use Rattle.code_edit.specs.declared.act.Pass.TheVariants as pass
use Rattle.code_edit.specs.Legal.{IsLegalAt, share_place}
use Rattle.code_edit.specs.Slots.{AreIncsCut, IsCutOp, IsLegalCut, cuts, is_cut}
use Rattle.code_edit.specs.SoundCode.{IsSound}
use Rattle.edit_premises.proofs.LastStays.{slots_keep_last}
use Rattle.edit_premises.proofs.Places.{get_below}
use Rattle.edit_legal.specs.Cuttable.{added, added_by, additions_of, cuttable, is_cuttable}
use Rattle.edit_legal.specs.Cuttable.{may_cut}
use Rattle.edit_tables.specs.Loads.{loads_of, slot_count, slot_end}
use Rattle.edit_tables.proofs.Loading.{in_none, loads_tell, slot_within}
use Rattle.edit_legal.specs.Fault.{IsFault, fault_after}
use Rattle.edit_legal.proofs.Faults.{faults, none_shares, shares_tells}
use Rattle.edit_tables.proofs.Naming.{Named, spread_tells}
use Rattle.edit_tables.proofs.Telling.{Tells, and_both, both, is_false, is_not}
use Rattle.edit_tables.proofs.Telling.{tells, told, turned, un_not, untold}
use Rattle.edit_tables.specs.Marks.{has, none, with_cuts}
use Rattle.edit_tables.proofs.Marking.{cuts_marked, has_none}

module _ (acts : List Act) (code : Code) (sound : IsSound code) where
  -- ---- local variables

  abbrev n : ℕ
  n = length code.ins

  abbrev cut_list : List Bool
  cut_list = with_cuts acts (none n)

  abbrev slots : ℕ
  slots = slot_count code.ins

  -- an addition to the local variable that no act cuts
  abbrev Uncut : ℕ → Type 0
  Uncut slot = (at : ℕ) × (i : Ins) × (z : ℤ) × (slice_get code.ins at ≡ Some i)
      × (i.op ≡ op.Inc slot z) × (is_cut acts at ≡ false)

  add_there : (b : Bool) (o : Op) (k slot : ℕ) → slice_get (added b o) k ≡ Some slot
      → (z : ℤ) × (o ≡ op.Inc slot z) × (b ≡ false)
  add_there true (op.Inc s z) k slot e = absurd cc
  add_there false (op.Inc s z) zero slot e =
      let same : s ≡ slot = cc in (z, ap (λ t. op.Inc t z) same, refl)
  add_there false (op.Inc s z) (suc k) slot e = absurd cc
  add_there b o k slot e = absurd cc

  there_add : (b : Bool) (o : Op) (slot : ℕ) (z : ℤ) → o ≡ op.Inc slot z → b ≡ false
      → slice_get (added b o) 0 ≡ Some slot
  there_add b o slot z e f = λ i. slice_get (added (f i) (e i)) 0

  additions_tell : (slot : ℕ) → slot < slots
      → Tells (has (additions_of cut_list code) slot) (Uncut slot)
  additions_tell slot lt =
      by (spread_tells (added_by cut_list) [] slot code.ins (none slots) (in_none code slot lt)
      (has_none slots slot))
    where
      by : Tells (has (additions_of cut_list code) slot)
          (Named (added_by cut_list) [] slot 0 code.ins)
          → Tells (has (additions_of cut_list code) slot) (Uncut slot)
      by (inl q) =
          let x = q.1 in
          let a = add_there (has cut_list (0 + x.0)) x.2.op x.1 slot x.5 in
          let z : 0 + x.0 ≡ x.0 = omega arith in
          let marked = cuts_marked acts n x.0 (get_below code.ins x.0 x.2 x.3) in
          inl (
            q.0,
            (x.0, x.2, a.0, x.3, a.1, sym marked ∙ ap (has cut_list) (sym z) ∙ a.2),
          )
      by (inr q) = inr (
        q.0,
        λ u.
            let z : u.0 ≡ 0 + u.0 = omega arith in
            let marked = cuts_marked acts n u.0 (get_below code.ins u.0 u.1 u.3) in
            q.1 (
              u.0,
              0,
              u.1,
              u.3,
              refl,
              there_add (has cut_list (0 + u.0)) u.1.op slot u.2 u.4
                  (ap (has cut_list) (sym z) ∙ marked ∙ u.5),
            ),
      )

  -- ---- what may be cut

  abbrev loads_here : List Bool
  loads_here = loads_of code

  abbrev additions_here : List Bool
  additions_here = additions_of cut_list code

  op_tells : (o : Op) → slot_end o ≤ slots
      → Tells (is_cuttable loads_here additions_here o) (IsCutOp acts code o)
  op_tells (op.Store kind slot) le =
      let lt : slot < slots = omega (arith, le) in
      tells _ _
      (λ e. let x = both _ _ e in (
        is_false _ (λ q. untold _ _ (loads_tell code slot lt) (un_not _ x.0) q),
        λ at i z f g. not_uncut (additions_tell slot lt) (un_not _ x.1) at i z f g,
      ))
      (λ c. and_both _ _
      (is_not _ (is_false _ (λ q. let l = told _ _ (loads_tell code slot lt) q in
      let no : true ≡ false = sym l ∙ c.0 in cc)))
      (is_not _ (is_false _ (λ q. let u = told _ _ (additions_tell slot lt) q in
      let no : true ≡ false = sym (c.1 u.0 u.1 u.2 u.3 u.4) ∙ u.5 in cc))))
    where
      not_uncut : Tells (has additions_here slot) (Uncut slot) → has additions_here slot ≡ false
          → AreIncsCut acts code slot
      not_uncut t none at i z e f = by (is_cut acts at) refl
        where
          by : (b : Bool) → is_cut acts at ≡ b → b ≡ true
          by true q = refl
          by false q = absurd (untold _ _ t none (at, i, z, e, f, q))
  op_tells (op.Inc slot z) le =
      let lt : slot < slots = omega (arith, le) in
      tells _ _
      (λ e. is_false _ (λ q. untold _ _ (loads_tell code slot lt) (un_not _ e) q))
      (λ c. is_not _ (is_false _ (λ q. let l = told _ _ (loads_tell code slot lt) q in
      let no : true ≡ false = sym l ∙ c in cc)))
  op_tells o le = inr (refl, λ x. absurd x)

  has_map : (f : Ins → Bool) (ins : List Ins) (at : ℕ) (i : Ins) → slice_get ins at ≡ Some i
      → has (map f ins) at ≡ f i
  has_map f [] at i e = absurd cc
  has_map f (x ∷ ins) zero i e = let same : x ≡ i = cc in ap f same
  has_map f (x ∷ ins) (suc at) i e = has_map f ins at i e

  no_map : (f : Ins → Bool) (ins : List Ins) (at : ℕ) → slice_get ins at ≡ None
      → has (map f ins) at ≡ false
  no_map f [] at e = refl
  no_map f (x ∷ ins) zero e = absurd cc
  no_map f (x ∷ ins) (suc at) e = no_map f ins at e

  map_long : (f : Ins → Bool) (ins : List Ins) → length (map f ins) ≡ length ins
  map_long f [] = refl
  map_long f (x ∷ ins) = ap suc (map_long f ins)

  abbrev test : Ins → Bool
  test i = is_cuttable loads_here additions_here i.op

  list_long : length (cuttable acts code) ≡ n
  list_long = map_long test code.ins

  right_tells : (at : ℕ) → Tells (has (cuttable acts code) at) (IsLegalCut acts code (act.Cut at))
  right_tells at = by (slice_get code.ins at) refl
    where
      by : (o : Option Ins) → slice_get code.ins at ≡ o
          → Tells (has (cuttable acts code) at) (IsLegalCut acts code (act.Cut at))
      by None e = inr (
        no_map test code.ins at e,
        λ l.
            let no : None ≡ Some l.0 = sym e ∙ l.1 in cc,
      )
      by (Some i) e = op (op_tells i.op (slot_within code.ins at i e))
        where
          same : has (cuttable acts code) at ≡ test i
          same = has_map test code.ins at i e

          op : Tells (test i) (IsCutOp acts code i.op)
              → Tells (has (cuttable acts code) at) (IsLegalCut acts code (act.Cut at))
          op (inl q) = inl (same ∙ q.0, (i, e, q.1))
          op (inr q) = inr (
            same ∙ q.0,
            λ l.
                let one : Some l.0 ≡ Some i = sym l.1 ∙ e in
                let ins : l.0 ≡ i = cc in
                q.1 (subst (λ (x : Ins). IsCutOp acts code x.op) ins l.2),
          )

  -- ---- one act

  cut_same : (at : ℕ) (b : Act) → share_place b (act.Cut at) ≡ cuts at b
  cut_same at (act.Cut place) = turned place at
  cut_same at b = refl

  any_same : (at : ℕ) (before : List Act)
      → list_any (λ (b : Act). share_place b (act.Cut at)) before ≡ list_any (cuts at) before
  any_same at [] = refl
  any_same at (b ∷ before) = λ i. cut_same at b i || any_same at before i

  abbrev may : List Act → Act → Bool
  may = may_cut (cuttable acts code)

  below_list : (at : ℕ) → has (cuttable acts code) at ≡ true → at < n
  below_list at e = let l = told _ _ (right_tells at) e in get_below code.ins at l.0 l.1

  free_is : (before : List Act) (at : ℕ) → at < n
      → not (has (with_cuts before (none (length (cuttable acts code)))) at)
      ≡ none_shares before (act.Cut at)
  free_is before at lt =
      ap (λ m. not (has (with_cuts before (none m)) at)) list_long
      ∙ ap not (cuts_marked before n at lt ∙ sym (any_same at before))

  one_tells : (before rest : List Act) (a : Act) → acts ≡ before ++ a ∷ rest
      → Tells (may before a) (IsLegalAt pass.Slots acts code (length before) a)
  one_tells before rest (act.Cut at) is =
      tells _ _
      (λ e. let x = both _ _ e in
      let lt = below_list at x.0 in (
        told _ _ (right_tells at) x.0,
        told _ _ (shares_tells acts before rest (act.Cut at) is) (sym (free_is before at lt) ∙ x.1),
        slots_keep_last acts code sound (act.Cut at),
      ))
      (λ legal. let right = back (right_tells at) legal.0 in
      and_both _ _ right
      (free_is before at (below_list at right)
      ∙ back (shares_tells acts before rest (act.Cut at) is) legal.1))
    where
      back : {b : Bool} {P : Type 0} → Tells b P → P → b ≡ true
      back (inl q) p = q.0
      back (inr q) p = absurd (q.1 p)
  one_tells before rest (act.Drop from to) is = inr (refl, λ legal. absurd legal.0)
  one_tells before rest (act.Fact from to slot value) is = inr (refl, λ legal. absurd legal.0)
  one_tells before rest (act.Fold at to) is = inr (refl, λ legal. absurd legal.0)
  one_tells before rest (act.Aim at which to) is = inr (refl, λ legal. absurd legal.0)
  one_tells before rest (act.Skip at) is = inr (refl, λ legal. absurd legal.0)

pub cut_fault_is : (acts : List Act) (code : Code) (list : List Bool) (fault : Option ℕ)
    → IsSound code → list ≡ cuttable acts code → fault ≡ fault_after (may_cut list) 0 [] acts
    → IsFault pass.Slots acts code fault
cut_fault_is acts code list fault sound e f =
    subst (IsFault pass.Slots acts code)
    (sym (f ∙ ap (λ (xs : List Bool). fault_after (may_cut xs) 0 [] acts) e))
    (faults pass.Slots acts code (may_cut (cuttable acts code))
    (λ before rest a is prior. one_tells acts code sound before rest a is))
