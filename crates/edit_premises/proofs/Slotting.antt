-- Legal acts of slots cut stores to slots that nothing loads, and leave out what does nothing then.
use Rattle.std.proofs.Common.{ℕ, ◌+◌, ◌-◌, List, Option, Some, None, Bool, true, false, ◌≡◌, ◌≢◌}
use Rattle.std.proofs.Common.{◌⊎◌, inl, inr, refl, sym, ap, ◌∙◌, subst, arith}
use Rattle.std.specs.Prelude.{ℤ, not, slice_get, nat_eq, ◌&&◌, ◌||◌, ◌==◌, if◌then◌else◌}
use Rattle.std.specs.List.{AllByRecursion, list_any}
use Rattle.std.specs.Option.{option_map, option_map_or}
use Rattle.std.proofs.lemmas.Bool.{eq-eqb}
use Rattle.std.proofs.lemmas.Bool.Decides.{eqb_tells}
use Rattle.class_model.specs.declared.code.Code.{Code}
use Rattle.class_model.specs.declared.code.Handler.{Handler}
use Rattle.class_model.specs.declared.code.Ins.{Ins}
use Rattle.class_model.specs.declared.op.Kind.{Kind}
use Rattle.class_model.specs.declared.op.Op.{Op}
use Rattle.class_model.specs.declared.op.Op.TheVariants as op
use Rattle.code_edit.specs.declared.act.Act.{Act}
use Rattle.code_edit.specs.declared.act.Act.TheVariants as act
use Rattle.jv_base.proofs.Lists.{all_at, all_from, any_at, any_where}
use Rattle.jvm_model.specs.Mapped.{OptionCorr}
use Rattle.edit_premises.specs.Compacts.{Compacts}
use Rattle.edit_premises.specs.Cutting.{CutIns, CutOp, Cuts, adds, pops, pushes, stays, stores}
use Rattle.code_edit.specs.Rewriting.{rewritten, with_op}
use Rattle.code_edit.specs.Flow.{is_target, of_ins, targets}
use Rattle.code_edit.specs.Slots.{AreLegalCuts, IsCutOp, IsLegalCut, cuts, goes, is_cut, is_inc}
use Rattle.code_edit.specs.Slots.{is_loaded, is_push, is_store, loads, popped, slotted}
use Rattle.code_edit.specs.Slots.{slotted_code, takes_push}
use Rattle.edit_premises.proofs.Places.{map_from_get}
use Rattle.edit_premises.proofs.Retargeted.{all_closed}

-- ---- tests

four_parts : (a b c t : Bool) → (a && (b && (c && not t))) ≡ true → (a ≡ true) × (b ≡ true)
    × (c ≡ true) × (t ≡ false)
four_parts true true true false e = (refl, refl, refl, refl)
four_parts true true true true e = absurd cc
four_parts true true false t e = absurd cc
four_parts true false c t e = absurd cc
four_parts false b c t e = absurd cc

four_false : (a b c t : Bool) → t ≡ true → (a && (b && (c && not t))) ≡ false
four_false true true true true e = refl
four_false a b c false e = absurd cc
four_false true true false true e = refl
four_false true false c true e = refl
four_false false b c true e = refl

or_true_right : (a b : Bool) → b ≡ true → (a || b) ≡ true
or_true_right true b e = refl
or_true_right false b e = e

or_true_left : (a b : Bool) → a ≡ true → (a || b) ≡ true
or_true_left true b e = refl
or_true_left false b e = absurd cc

not_push : (o : Op) → is_store o ≡ true → is_push o ≡ true → ⊥
not_push (op.Store k slot) e h = absurd cc
not_push o e h = absurd cc

either : (b : Bool) → (b ≡ true) ⊎ (b ≡ false)
either true = inl refl
either false = inr refl

module _ (acts : List Act) (code : Code) where
  abbrev takes : ℕ → Bool
  takes = takes_push acts code

  -- a cut names a store to the slot
  abbrev stores_to : ℕ → Op → Bool
  stores_to slot (op.Store k place) = slot == place
  stores_to slot o = false

  abbrev loses : ℕ → Act → Bool
  loses slot (act.Cut at) = of_ins (stores_to slot) code at
  loses slot a = false

  abbrev lost : ℕ → Bool
  lost slot = list_any (loses slot) acts

  told : (test : Op → Bool) (at : ℕ) (i : Ins) → slice_get code.ins at ≡ Some i
      → of_ins test code at ≡ test i.op
  told test at i e = ap (λ o. option_map_or (λ (i : Ins). test i.op) o false) e

  -- ---- targets

  target_free : (t : ℕ) → is_target code t ≡ true → takes t ≡ false
  target_free t e =
      four_false (is_cut acts t) (of_ins is_store code t) (of_ins is_push code (t - 1))
      (is_target code t) e

  jump_free : (at : ℕ) (i : Ins) → slice_get code.ins at ≡ Some i
      → AllByRecursion (λ t. takes t ≡ false) (targets i.op)
  jump_free at i e = all_from (λ t. takes t ≡ false) (targets i.op)
      (λ k t x. target_free t
      (or_true_left _ _
      (any_at (λ (i : Ins). list_any (nat_eq t) (targets i.op)) code.ins at i e
      (any_at (nat_eq t) (targets i.op) k t x (eq-eqb t t refl)))))

  entry_free : AllByRecursion (λ (h : Handler). takes h.entry ≡ false) code.handlers
  entry_free = all_from (λ (h : Handler). takes h.entry ≡ false) code.handlers
      (λ k h x. target_free h.entry
      (or_true_right _ _ (any_at (λ (g : Handler). nat_eq h.entry g.entry) code.handlers k h x
      (eq-eqb h.entry h.entry refl))))

  -- ---- stores that go with a push

  first_free : takes 0 ≡ false
  first_free = by (takes 0) refl
    where
      both : (o : Option Ins) → option_map_or (λ (i : Ins). is_store i.op) o false ≡ true
          → option_map_or (λ (i : Ins). is_push i.op) o false ≡ true → ⊥
      both None e h = absurd cc
      both (Some i) e h = not_push i.op e h

      by : (b : Bool) → takes 0 ≡ b → b ≡ false
      by false e = refl
      by true e =
          let p = four_parts (is_cut acts 0) (of_ins is_store code 0) (of_ins is_push code (0 - 1))
          (is_target code 0) e in
          absurd (both (slice_get code.ins 0) p.1 p.2)

  module _ (at : ℕ) (i : Ins) (here : slice_get code.ins at ≡ Some i) where
    -- before such a store is a push
    push_before : takes (at + 1) ≡ true → is_push i.op ≡ true
    push_before e =
        let p =
        four_parts (is_cut acts (at + 1)) (of_ins is_store code (at + 1))
        (of_ins is_push code (at + 1 - 1)) (is_target code (at + 1)) e in
        let same : at + 1 - 1 ≡ at = omega arith in
        sym (told is_push at i here) ∙ ap (of_ins is_push code) (sym same) ∙ p.2

    -- the store is one that is cut
    store_there : takes at ≡ true → (is_cut acts at ≡ true) × (is_store i.op ≡ true)
    store_there e =
        let p = four_parts (is_cut acts at) (of_ins is_store code at) (of_ins is_push code (at - 1))
        (is_target code at) e in
        (p.0, sym (told is_store at i here) ∙ p.1)

    module _ (legal : AreLegalCuts acts code) where
      one_cut : (a : Act) → IsLegalCut acts code a → cuts at a ≡ true → IsCutOp acts code i.op
      one_cut (act.Cut place) h e = by (eqb_tells at place)
        where
          by : (((at == place) ≡ true) × (at ≡ place)) ⊎ (((at == place) ≡ false) × (at ≢ place))
              → IsCutOp acts code i.op
          by (inl q) = let x : Some h.0 ≡ Some i = sym h.1 ∙ ap (slice_get code.ins) (sym q.1)
              ∙ here in let y : h.0 ≡ i = cc in subst (λ (j : Ins). IsCutOp acts code j.op) y h.2
          by (inr q) = absurd (let x : true ≡ false = sym e ∙ q.0 in cc)
      one_cut a h e = absurd h

      cut_there : is_cut acts at ≡ true → IsCutOp acts code i.op
      cut_there e = let x = any_where (cuts at) acts e in
          one_cut x.1 (all_at (IsLegalCut acts code) acts x.0 x.1 legal x.2) x.3

      -- its slot loses a store
      lost_slot : (k : Kind) (slot : ℕ) → i.op ≡ op.Store k slot → is_cut acts at ≡ true
          → lost slot ≡ true
      lost_slot k slot o e =
          let x = any_where (cuts at) acts e in any_at (loses slot) acts x.0 x.1 x.2 (by x.1 x.3)
        where
          by : (a : Act) → cuts at a ≡ true → loses slot a ≡ true
          by (act.Cut place) q = here_is (eqb_tells at place) q
            where
              here_is : (((at == place) ≡ true) × (at ≡ place))
                  ⊎ (((at == place) ≡ false) × (at ≢ place)) → (at == place) ≡ true
                  → of_ins (stores_to slot) code place ≡ true
              here_is (inl p) q = ap (of_ins (stores_to slot) code) (sym p.1)
                  ∙ told (stores_to slot) at i here ∙ ap (stores_to slot) o ∙ eq-eqb slot slot refl
              here_is (inr p) q = absurd (let x : true ≡ false = sym q ∙ p.0 in cc)
          by a q = absurd cc

      -- an addition that stays is to a slot that loses none
      kept_slot : (slot : ℕ) (z : ℤ) → i.op ≡ op.Inc slot z → is_cut acts at ≡ false
          → lost slot ≡ false
      kept_slot slot z o e = by (lost slot) refl
        where
          at_store : (j : Op) → stores_to slot j ≡ true → IsCutOp acts code j
              → is_cut acts at ≡ true
          at_store (op.Store k place) q h =
              by (eqb_tells slot place)
            where
              by : (((slot == place) ≡ true) × (slot ≡ place))
                  ⊎ (((slot == place) ≡ false) × (slot ≢ place)) → is_cut acts at ≡ true
              by (inl p) = h.1 at i z here (o ∙ ap (λ s. op.Inc s z) p.1)
              by (inr p) = absurd (let x : true ≡ false = sym q ∙ p.0 in cc)
          at_store j q h = absurd cc

          store_at : (a : Act) → loses slot a ≡ true → IsLegalCut acts code a
              → is_cut acts at ≡ true
          store_at (act.Cut place) q h =
              at_store h.0.op (sym (told (stores_to slot) place h.0 h.1) ∙ q) h.2
          store_at a q h = absurd cc

          by : (b : Bool) → lost slot ≡ b → b ≡ false
          by false q = refl
          by true q =
              let x = any_where (loses slot) acts q in
              absurd (let y : true ≡ false =
              sym (store_at x.1 x.3 (all_at (IsLegalCut acts code) acts x.0 x.1 legal x.2))
              ∙ e in cc)

      -- a load names its slot
      loaded_slot : (k : Kind) (slot : ℕ) → i.op ≡ op.Load k slot → is_loaded code slot ≡ true
      loaded_slot k slot o =
          any_at (λ (j : Ins). loads slot j.op) code.ins at i here (ap (loads slot) o
          ∙ eq-eqb slot slot refl)

      abbrev after : Bool → Bool → Bool → Bool → Op
      after next this cut inc =
          if next || (this || (cut && inc)) then op.Nop else if cut then popped i.op else i.op

      -- by what is at the index
      cut_by : (o : Op) → i.op ≡ o → takes at ≡ false → takes (at + 1) ≡ false → IsCutOp acts code o
          → is_cut acts at ≡ true
          → CutOp (is_loaded code) lost takes at o (if is_inc o then op.Nop else popped o)
      cut_by (op.Store k slot) e t n h c = pops t n k slot refl h.0 (lost_slot k slot e c) refl
      cut_by (op.Inc slot z) e t n h c = adds t n slot z refl h refl
      cut_by o e t n h c = absurd h

      taken_by : (o : Op) → i.op ≡ o → takes at ≡ true → takes (at + 1) ≡ false → is_store o ≡ true
          → IsCutOp acts code o → is_cut acts at ≡ true
          → CutOp (is_loaded code) lost takes at o op.Nop
      taken_by (op.Store k slot) e t n s h c =
          stores t n k slot refl h.0 (lost_slot k slot e c) refl
      taken_by o e t n s h c = absurd cc

      op_by : (next this cut : Bool) → takes (at + 1) ≡ next → takes at ≡ this
          → is_cut acts at ≡ cut
          → CutOp (is_loaded code) lost takes at i.op (after next this cut (is_inc i.op))
      op_by true true cut n t c = absurd (not_push i.op (store_there t).1 (push_before n))
      op_by true false cut n t c = pushes t n (push_before n) refl
      op_by false true cut n t c = let s = store_there t in
          taken_by i.op refl t n s.1 (cut_there s.0) s.0
      op_by false false true n t c = cut_by i.op refl t n (cut_there c) c
      op_by false false false n t c = stays t n refl loaded_slot (λ slot z o. kept_slot slot z o c)

      op_at : CutOp (is_loaded code) lost takes at i.op (slotted acts code at i.op)
      op_at =
          subst
          (λ b. CutOp (is_loaded code) lost takes at i.op
          (after (takes (at + 1)) (takes at) (is_cut acts at) b)) (sym (told is_inc at i here))
          (op_by (takes (at + 1)) (takes at) (is_cut acts at) refl refl refl)

  -- ---- the code

  ins_at : (at : ℕ)
      → slice_get (rewritten (slotted acts code) code).ins at ≡ option_map
      (with_op (slotted acts code at)) (slice_get code.ins at)
  ins_at at =
      let e : 0 + at ≡ at = omega arith in
      map_from_get (λ k (i : Ins). with_op (slotted acts code k) i) 0 code.ins at
      ∙ ap (λ k. option_map (with_op (slotted acts code k)) (slice_get code.ins at)) e

  module _ (legal : AreLegalCuts acts code) where
    ins_by : (at : ℕ) (o : Option Ins) → slice_get code.ins at ≡ o
        → OptionCorr (CutIns (is_loaded code) lost takes at) o
        (option_map (with_op (slotted acts code at)) o)
    ins_by at None e = refl
    ins_by at (Some i) e = (_, refl, (refl, op_at at i e legal))

    pub slots_cut : Cuts code (rewritten (slotted acts code) code)
    slots_cut = record {
      loaded = is_loaded code;
      lost = lost;
      takes = takes;
      first = first_free;
      ins = λ at. subst (OptionCorr (CutIns (is_loaded code) lost takes at) (slice_get code.ins at))
          (sym (ins_at at)) (ins_by at _ refl);
      jump = jump_free;
      entry = entry_free;
      handlers = refl;
    }

    nop_by : (b : Bool) (o : Op) → not b ≡ false → (if b then op.Nop else o) ≡ op.Nop
    nop_by true o e = refl
    nop_by false o e = absurd cc

    nops_by : (at : ℕ) (j : Ins) (o : Option Ins) → not (goes acts code at) ≡ false
        → option_map (with_op (slotted acts code at)) o ≡ Some j → j.op ≡ op.Nop
    nops_by at j None d e = absurd cc
    nops_by at j (Some i) d e =
        let same : with_op (slotted acts code at) i ≡ j = cc in
        ap (λ (x : Ins). x.op) (sym same)
        ∙ nop_by (goes acts code at) (if is_cut acts at then popped i.op else i.op) d

    pub slots_leave_out : Compacts (rewritten (slotted acts code) code) (slotted_code acts code)
    slots_leave_out = record {
      lives = λ at. not (goes acts code at);
      reached = λ at. true;
      closed = all_closed (rewritten (slotted acts code) code);
      nops = λ at j r d e. nops_by at j (slice_get code.ins at) d (sym (ins_at at) ∙ e);
      is = refl;
    }
