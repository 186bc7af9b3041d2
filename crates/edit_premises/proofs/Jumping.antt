-- Legal acts of jumps go past gotos, and leave out what does nothing then.
use Rattle.std.proofs.Common.{ℕ, suc, ◌+◌, List, [], ◌∷◌, Option, Some, None, Bool, true, false}
use Rattle.std.proofs.Common.{◌≡◌, ◌≢◌, ◌⊎◌, inl, inr, refl, sym, ap, ◌∙◌, subst, arith}
use Rattle.std.specs.Prelude.{not, slice_get, ◌&&◌, ◌==◌, if◌then◌else◌}
use Rattle.std.specs.List.{AllByRecursion}
use Rattle.std.specs.Option.{option_map, option_map_or, unwrap_or}
use Rattle.std.proofs.lemmas.Bool.Decides.{eqb_tells}
use Rattle.class_model.specs.declared.code.Code.{Code}
use Rattle.class_model.specs.declared.code.Ins.{Ins}
use Rattle.class_model.specs.declared.op.Op.{Op}
use Rattle.class_model.specs.declared.op.Op.TheVariants as op
use Rattle.code_edit.specs.declared.act.Act.{Act}
use Rattle.code_edit.specs.declared.act.Act.TheVariants as act
use Rattle.jv_base.proofs.Lists.{all_at, any_where}
use Rattle.jvm_model.specs.Mapped.{OptionCorr}
use Rattle.edit_premises.specs.Compacts.{Compacts}
use Rattle.code_edit.specs.Rewriting.{retargeted, rewritten, with_op}
use Rattle.code_edit.specs.Flow.{targets}
use Rattle.code_edit.specs.Jumps.{AreLegalJumps, IsLegalJump, LeadsTo, aim, is_goto, is_skipped}
use Rattle.code_edit.specs.Jumps.{jumped, jumped_code, moved_by, skip_target, skipped, skips, stays}
use Rattle.edit_premises.specs.Retargets.{Falls, InsRetargeted, Retargeted, Retargets, falls}
use Rattle.edit_premises.specs.Retargets.{goes_past}
use Rattle.edit_premises.proofs.Places.{map_from_get}
use Rattle.edit_premises.proofs.Retargeted.{all_closed, retargeted_aims}

module _ (all : List Act) (code : Code) where
  -- ---- targets

  module _ (at : ℕ) (i : Ins) (here : slice_get code.ins at ≡ Some i) (which t : ℕ)
      (told : slice_get (targets i.op) which ≡ Some t) where
    one_aim : (a : Act) → IsLegalJump all code a → (rest : ℕ) → LeadsTo code t rest
        → LeadsTo code t (unwrap_or (moved_by at which a) rest)
    one_aim (act.Aim place number to) h rest r = by (eqb_tells at place) (eqb_tells which number)
      where
        by : (((at == place) ≡ true) × (at ≡ place)) ⊎ (((at == place) ≡ false) × (at ≢ place))
            → (((which == number) ≡ true) × (which ≡ number))
            ⊎ (((which == number) ≡ false) × (which ≢ number))
            → LeadsTo code t
            (unwrap_or (if at == place && which == number then Some to else None) rest)
        by (inl p) (inl q) =
            let ins : Some i ≡ Some h.0 = sym here ∙ ap (slice_get code.ins) p.1 ∙ h.2 in
            let ins' : i ≡ h.0 = cc in
            let old : Some t ≡ Some h.1 = sym told
            ∙ ap (λ (x : Ins). slice_get (targets x.op) which) ins'
            ∙ ap (slice_get (targets h.0.op)) q.1 ∙ h.3 in
            let old' : t ≡ h.1 = cc in
            subst (λ b. LeadsTo code t (unwrap_or (if b then Some to else None) rest))
            (sym (ap (λ b. b && which == number) p.0 ∙ ap (λ b. true && b) q.0))
            (subst (λ x. LeadsTo code x to) (sym old') (suc h.4.0, h.4.1))
        by (inl p) (inr q) =
            subst (λ b. LeadsTo code t (unwrap_or (if b then Some to else None) rest))
            (sym (ap (λ b. at == place && b) q.0 ∙ ap (λ b. b && false) p.0)) r
        by (inr p) q = subst (λ b. LeadsTo code t (unwrap_or (if b then Some to else None) rest))
            (sym (ap (λ b. b && which == number) p.0)) r
    one_aim (act.Skip place) h rest r = r
    one_aim a h rest r = absurd h

    pub aims_lead : (acts : List Act) → AllByRecursion (IsLegalJump all code) acts
        → LeadsTo code t (aim acts at which t)
    aims_lead [] h = (0, refl)
    aims_lead (a ∷ acts) h = one_aim a h.0 (aim acts at which t) (aims_lead acts h.1)

  -- ---- instructions

  falls_by : (at : ℕ) (o : Op) (to : ℕ) → skip_target o ≡ Some to → LeadsTo code to (at + 1)
      → Falls code at o (skipped o)
  falls_by at (op.Goto t) to e l = let same : to ≡ t = cc in
      (subst (λ x. LeadsTo code x (at + 1)) same l, refl)
  falls_by at (op.IfZero x t) to e l = let same : to ≡ t = cc in
      (subst (λ x. LeadsTo code x (at + 1)) same l, refl)
  falls_by at (op.IfNull x t) to e l = let same : to ≡ t = cc in
      (subst (λ x. LeadsTo code x (at + 1)) same l, refl)
  falls_by at (op.IfCmp x t) to e l = let same : to ≡ t = cc in
      (subst (λ x. LeadsTo code x (at + 1)) same l, refl)
  falls_by at (op.IfRef x t) to e l = let same : to ≡ t = cc in
      (subst (λ x. LeadsTo code x (at + 1)) same l, refl)
  falls_by at o to e l = absurd cc

  pub first_target : (o : Op) (to : ℕ) → skip_target o ≡ Some to → slice_get (targets o) 0 ≡ Some to
  first_target (op.Goto t) to e = e
  first_target (op.IfZero x t) to e = e
  first_target (op.IfNull x t) to e = e
  first_target (op.IfCmp x t) to e = e
  first_target (op.IfRef x t) to e = e
  first_target o to e = absurd cc

  module _ (legal : AreLegalJumps all code) where
    one_skip : (at : ℕ) (i : Ins) → slice_get code.ins at ≡ Some i → (a : Act)
        → IsLegalJump all code a → skips at a ≡ true
        → Falls code at i.op (skipped i.op)
    one_skip at i here (act.Skip place) h e = by (eqb_tells at place)
      where
        by : (((at == place) ≡ true) × (at ≡ place)) ⊎ (((at == place) ≡ false) × (at ≢ place))
            → Falls code at i.op (skipped i.op)
        by (inr q) = absurd (let x : true ≡ false = sym e ∙ q.0 in cc)
        by (inl q) =
            let ins : Some h.0 ≡ Some i = sym h.2 ∙ ap (slice_get code.ins) (sym q.1) ∙ here in
            let ins' : h.0 ≡ i = cc in
            let target : skip_target i.op ≡ Some h.1 = ap (λ (x : Ins). skip_target x.op) (sym ins')
            ∙ h.3 in
            let lead : LeadsTo code h.1 (aim all at 0 h.1) =
            aims_lead at i here 0 h.1 (first_target i.op h.1 target) all legal in
            let same : aim all at 0 h.1 ≡ at + 1 = ap (λ x. aim all x 0 h.1) q.1 ∙ h.4
            ∙ ap (λ x. x + 1) (sym q.1) in
            falls_by at i.op h.1 target (subst (LeadsTo code h.1) same lead)
    one_skip at i here (act.Aim place which to) h e = absurd cc
    one_skip at i here a h e = absurd h

    op_by : (at : ℕ) (i : Ins) → slice_get code.ins at ≡ Some i → (b : Bool) → is_skipped all at ≡ b
        → Retargeted code at i.op (if b then skipped i.op else retargeted (aim all at) i.op)
    op_by at i here true e =
        let x = any_where (skips at) all e in
        falls (one_skip at i here x.1 (all_at (IsLegalJump all code) all x.0 x.1 legal x.2) x.3)
    op_by at i here false e =
        goes_past
        (retargeted_aims (LeadsTo code) (Unit {0}) (aim all at) i.op
        (λ which t told. aims_lead at i here which t told all legal) (λ q. tt))

    ins_by : (at : ℕ) (o : Option Ins) → slice_get code.ins at ≡ o
        → OptionCorr (InsRetargeted code at) o (option_map (with_op (jumped all at)) o)
    ins_by at None e = refl
    ins_by at (Some i) e = (_, refl, (refl, op_by at i e (is_skipped all at) refl))

    ins_at : (at : ℕ)
        → slice_get (rewritten (jumped all) code).ins at ≡ option_map (with_op (jumped all at))
        (slice_get code.ins at)
    ins_at at =
        let e : 0 + at ≡ at = omega arith in
        map_from_get (λ k (i : Ins). with_op (jumped all k) i) 0 code.ins at
        ∙ ap (λ k. option_map (with_op (jumped all k)) (slice_get code.ins at)) e

    pub jumps_retarget : Retargets code (rewritten (jumped all) code)
    jumps_retarget = record {
      ins = λ at. subst (OptionCorr (InsRetargeted code at) (slice_get code.ins at))
          (sym (ins_at at)) (ins_by at _ refl);
      handlers = refl;
    }

    -- what is left out does nothing
    nop_by : (b : Bool) (o : Op) (o' : Op) → not (b && is_goto o) ≡ false
        → (if b then skipped o else o') ≡ op.Nop
    nop_by true (op.Goto t) o' e = refl
    nop_by true o o' e = absurd cc
    nop_by false o o' e = absurd cc

    nops_by : (at : ℕ) (j : Ins) (o : Option Ins)
        → not (is_skipped all at && option_map_or (λ (i : Ins). is_goto i.op) o false) ≡ false
        → option_map (with_op (jumped all at)) o ≡ Some j → j.op ≡ op.Nop
    nops_by at j None d e = absurd cc
    nops_by at j (Some i) d e =
        let same : with_op (jumped all at) i ≡ j = cc in
        ap (λ (x : Ins). x.op) (sym same)
        ∙ nop_by (is_skipped all at) i.op (retargeted (aim all at) i.op) d

    pub jumps_leave_out : Compacts (rewritten (jumped all) code) (jumped_code all code)
    jumps_leave_out = record {
      lives = stays all code;
      reached = λ at. true;
      closed = all_closed (rewritten (jumped all) code);
      nops = λ at j r d e. nops_by at j (slice_get code.ins at) d (sym (ins_at at) ∙ e);
      is = refl;
    }
