-- Legal acts on constants leave a sound code sound.
use Rattle.std.proofs.Common.{ℕ, ◌+◌, ◌<◌, ◌≤◌, List, [], ◌∷◌, Option, Some, None, Bool, true}
use Rattle.std.proofs.Common.{false, ◌≡◌, ◌≢◌, ◌⊎◌, inl, inr, refl, sym, ap, ◌∙◌, subst, arith}
use Rattle.std.specs.Prelude.{ℤ, length, not, slice_get, ◌||◌, ◌==◌, if◌then◌else◌}
use Rattle.std.specs.List.{AllByRecursion}
use Rattle.std.specs.Option.{unwrap_or}
use Rattle.std.proofs.lemmas.Bool.Decides.{eqb_tells}
use Rattle.std.proofs.lemmas.List.Elements.{All-contains}
use Rattle.jv_base.proofs.Lists.{found_at}
use Rattle.class_model.specs.declared.code.Code.{Code}
use Rattle.class_model.specs.declared.code.Ins.{Ins}
use Rattle.class_model.specs.declared.op.Op.{Op}
use Rattle.class_model.specs.declared.op.Op.TheVariants as op
use Rattle.code_edit.specs.declared.act.Act.{Act}
use Rattle.code_edit.specs.Constants.{AreLegalConst, count, count_by, fold_to}
use Rattle.code_edit.specs.Constants.{folded, folded_code, goes, is_fold, is_next, is_operand}
use Rattle.code_edit.specs.Constants.{is_two, landed, new_op}
use Rattle.code_edit.specs.Deciding.{NoOperand, decided}
use Rattle.code_edit.specs.Flow.{goes_elsewhere, targets}
use Rattle.code_edit.specs.Rewriting.{rewritten}
use Rattle.code_edit.specs.SoundCode.{IsSound}
use Rattle.edit_premises.proofs.AppliedSound.{last_index, last_leaves, long, rewritten_sound}
use Rattle.edit_premises.proofs.Folds.{Here, decided_in, here, no_fold, one_here, two_here}
use Rattle.edit_premises.proofs.Places.{get_below}
use Rattle.edit_premises.proofs.StaysSound.{compacted_sound}
use Rattle.edit_premises.proofs.Targets.{all_of}

-- a switch always leads to a target
switch_leads : (o : Op) (zs : List ℤ) (p : Option ℕ) → goes_elsewhere o ≡ true
    → decided o zs ≡ Some p → (t : ℕ) × (p ≡ Some t)
switch_leads (op.IfZero c t) (a ∷ []) p e d = absurd cc
switch_leads (op.IfCmp c t) (b ∷ a ∷ []) p e d = absurd cc
switch_leads (op.TableSwitch low t ts) (z ∷ []) p e d = (_, sym (inner _ p d))
  where
    inner : (x y : Option ℕ) → Some x ≡ Some y → x ≡ y
    inner x y h = cc
switch_leads (op.LookupSwitch t cs) (z ∷ []) p e d = (_, sym (inner _ p d))
  where
    inner : (x y : Option ℕ) → Some x ≡ Some y → x ≡ y
    inner x y h = cc
switch_leads o zs p e d = absurd cc

-- outside the code nothing is folded
no_count : (f : Option ℕ) → count_by f None ≡ NoOperand
no_count None = refl
no_count (Some to) = refl

module _ (acts : List Act) (code : Code) (legal : AreLegalConst acts code) (sound : IsSound code)
  where
    -- a fold leads to the next index or to an index of the code; in place of what never goes on to
    -- the latter
    abbrev Lands : ℕ → ℕ → Op → Type 0
    Lands at to o = ((to ≡ at + 1) × (goes_elsewhere o ≡ false)) ⊎ (to < length code.ins)

    leads_below : (at to : ℕ) (i : Ins) (zs : List ℤ) (p : Option ℕ)
        → slice_get code.ins at ≡ Some i
        → decided i.op zs ≡ Some p → unwrap_or p (at + 1) ≡ to → Lands at to i.op
    leads_below at to i zs None e d l = inl (sym l, by (goes_elsewhere i.op) refl)
      where
        by : (b : Bool) → goes_elsewhere i.op ≡ b → b ≡ false
        by false q = refl
        by true q =
            let t = switch_leads i.op zs None q d in
            let n : None ≡ Some t.0 = t.1 in cc
    leads_below at to i zs (Some t) e d l = inr (subst (λ x. x < length code.ins) l
        (All-contains (λ x. x < length code.ins) (targets i.op) t
        (all_of (λ x. x < length code.ins) (targets i.op) (sound.jump at i e))
        (decided_in i.op zs t d)))

    same_ins : (at : ℕ) (i j : Ins) → slice_get code.ins at ≡ Some i
        → slice_get code.ins at ≡ Some j
        → j ≡ i
    same_ins at i j e f = let q : Some j ≡ Some i = sym f ∙ e in cc

    fold_lands : (at to : ℕ) (i : Ins) → slice_get code.ins at ≡ Some i → fold_to acts at ≡ Some to
        → Lands at to i.op
    fold_lands at to i e f = by (here acts code legal at)
      where
        by : Here acts code legal at → Lands at to i.op
        by (no_fold g c) = absurd (let q : None ≡ Some to = sym g ∙ f in cc)
        by (one_here t g h c) =
            let q : Some t ≡ Some to = sym g ∙ f in
            let same : t ≡ to = cc in
            leads_below at to i (h.value ∷ []) h.point e
            (subst (λ (x : Ins). decided x.op (h.value ∷ []) ≡ Some h.point)
            (same_ins at i h.ins e h.here) h.decides) (h.leads ∙ same)
        by (two_here t g h c) =
            let q : Some t ≡ Some to = sym g ∙ f in
            let same : t ≡ to = cc in
            leads_below at to i (h.second ∷ h.first ∷ []) h.point e
            (subst (λ (x : Ins). decided x.op (h.second ∷ h.first ∷ []) ≡ Some h.point)
            (same_ins at i h.ins e h.here) h.decides) (h.leads ∙ same)

    fold_jump : (at : ℕ) (i : Ins) → slice_get code.ins at ≡ Some i
        → AllByRecursion (λ t. t < length code.ins) (targets (folded acts code at i.op))
    fold_jump at i e = by (is_operand acts code at) (fold_to acts at) refl
      where
        below : (to : ℕ) → Lands at to i.op
            → (((to == at + 1) ≡ true) × (to ≡ at + 1)) ⊎ (((to == at + 1) ≡ false) × (to ≢ at + 1))
            → AllByRecursion (λ t. t < length code.ins)
            (targets (if to == at + 1 then op.Nop else op.Goto to))
        below to l (inl q) =
            subst (λ b. AllByRecursion (λ t. t < length code.ins)
            (targets (if b then op.Nop else op.Goto to))) (sym q.0) tt
        below to (inl l) (inr q) = absurd (q.1 l.0)
        below to (inr l) (inr q) =
            subst (λ b. AllByRecursion (λ t. t < length code.ins)
            (targets (if b then op.Nop else op.Goto to))) (sym q.0) (l, tt)

        by : (b : Bool) (f : Option ℕ) → fold_to acts at ≡ f
            → AllByRecursion (λ t. t < length code.ins) (targets (new_op b f at i.op))
        by true f g = tt
        by false None g = sound.jump at i e
        by false (Some to) g = below to (fold_lands at to i e g) (eqb_tells to (at + 1))

    -- ---- the last instruction

    past : (k : ℕ) → length code.ins ≤ k → slice_get code.ins k ≡ None
    past k le = by (slice_get code.ins k) refl
      where
        by : (o : Option Ins) → slice_get code.ins k ≡ o → slice_get code.ins k ≡ None
        by None e = e
        by (Some i) e = absurd (let lt = get_below code.ins k i e in omega (arith, le, lt))

    count_past : (k : ℕ) → length code.ins ≤ k → count acts code k ≡ NoOperand
    count_past k le = ap (count_by (fold_to acts k)) (past k le) ∙ no_count (fold_to acts k)

    no_operand : (at : ℕ) → at + 1 ≡ length code.ins → is_operand acts code at ≡ false
    no_operand at end =
        ap (λ c. is_fold c || is_two (count acts code (at + 1 + 1)))
        (count_past (at + 1) (omega (arith, end)))
        ∙ ap is_two (count_past (at + 1 + 1) (omega (arith, end)))

    fold_last : (at : ℕ) (i : Ins) → slice_get code.ins at ≡ Some i → at + 1 ≡ length code.ins
        → goes_elsewhere (folded acts code at i.op) ≡ true
    fold_last at i e end =
        ap (λ b. goes_elsewhere (new_op b (fold_to acts at) at i.op)) (no_operand at end)
        ∙ by (fold_to acts at) refl
      where
        lands : (to : ℕ) → Lands at to i.op
            → (((to == at + 1) ≡ true) × (to ≡ at + 1)) ⊎ (((to == at + 1) ≡ false) × (to ≢ at + 1))
            → goes_elsewhere (if to == at + 1 then op.Nop else op.Goto to) ≡ true
        lands to (inl l) q = absurd (let x : true ≡ false = sym (sound.last at i e end) ∙ l.1 in cc)
        lands to (inr l) (inl q) = absurd (omega (arith, l, end, q.1))
        lands to (inr l) (inr q) = ap (λ b. goes_elsewhere (if b then op.Nop else op.Goto to)) q.0

        by : (f : Option ℕ) → fold_to acts at ≡ f → goes_elsewhere (landed at i.op f) ≡ true
        by None g = sound.last at i e end
        by (Some to) g = lands to (fold_lands at to i e g) (eqb_tells to (at + 1))

    -- so a fold never drops the last instruction
    pub last_stays : (at : ℕ) (i : Ins) → slice_get code.ins at ≡ Some i → at + 1 ≡ length code.ins
        → not (goes acts code at) ≡ true
    last_stays at i e end =
        ap (λ b. not (b || is_next at (fold_to acts at))) (no_operand at end)
        ∙ by (fold_to acts at) refl
      where
        stays : (to : ℕ) → Lands at to i.op
            → (((to == at + 1) ≡ true) × (to ≡ at + 1)) ⊎ (((to == at + 1) ≡ false) × (to ≢ at + 1))
            → not (to == at + 1) ≡ true
        stays to (inl l) q = absurd (let x : true ≡ false = sym (sound.last at i e end) ∙ l.1 in cc)
        stays to (inr l) (inl q) = absurd (omega (arith, l, end, q.1))
        stays to (inr l) (inr q) = ap not q.0

        by : (f : Option ℕ) → fold_to acts at ≡ f → not (is_next at f) ≡ true
        by None g = refl
        by (Some to) g = stays to (fold_lands at to i e g) (eqb_tells to (at + 1))

    -- before anything is left out it is sound too
    pub in_place_sound : IsSound (rewritten (folded acts code) code)
    in_place_sound = rewritten_sound (folded acts code) code sound fold_jump fold_last

    pub in_place_long : length (rewritten (folded acts code) code).ins ≡ length code.ins
    in_place_long = long (folded acts code) code sound fold_jump fold_last

    pub folds_sound : IsSound (folded_code acts code)
    folds_sound =
        let m = last_index (length code.ins) sound.some in
        let i = found_at code.ins m.0 (omega (arith, m.1)) in
        compacted_sound (λ at. not (goes acts code at)) (rewritten (folded acts code) code)
        (last_leaves (λ at. not (goes acts code at)) (rewritten (folded acts code) code) m.0
        (m.1 ∙ sym in_place_long) (last_stays m.0 i.0 i.1 m.1) in_place_sound) in_place_sound
