-- What a pass finds on a sound code is one list of acts.
use Rattle.std.proofs.Common.{◌≡◌, ℕ, zero, suc, ◌+◌, ◌<◌, Bool, true, false, cond, List, [], ◌∷◌}
use Rattle.std.proofs.Common.{◌++◌, length, get_or, refl, sym, ap, subst, ◌∙◌, Option, Some, None}
use Rattle.std.specs.Prelude.{◌==◌, slice_get}
use Rattle.std.specs.List.{AllByRecursion}
use Rattle.std.specs.Option.{option_map_or, unwrap_or}
use Rattle.std.proofs.lemmas.Bool.{both_ways}
use Rattle.std.proofs.lemmas.List.{ext_get_or}
use Rattle.std.proofs.lemmas.Option.{same_Some}
use Rattle.jv_base.proofs.Lists.{all_from, all_weaker}
use Rattle.class_model.specs.declared.code.Code.{Code}
use Rattle.class_model.specs.declared.code.Ins.{Ins}
use Rattle.class_model.specs.declared.op.Op.{Op}
use Rattle.class_model.specs.declared.op.Op.TheVariants as op
use Rattle.code_edit.specs.declared.act.Act.{Act}
use Rattle.code_edit.specs.declared.act.Act.TheVariants as act
use Rattle.code_edit.specs.declared.act.Pass.TheVariants.{Reach, Const, Slots, Jumps}
use Rattle.code_edit.specs.Flow.{of_ins, targets}
use Rattle.code_edit.specs.Jumps.{Leads, is_goto, skip_target}
use Rattle.code_edit.specs.Passes.{EndIs, IsReachEdits, TellsEnds, TellsReached}
use Rattle.code_edit.specs.Passes.{aims_from, aims_on, end_of, leads_next, runs, skips_from}
use Rattle.code_edit.specs.SoundCode.{IsSound}
use Rattle.const_laws.proofs.Fixed.{one_list_of_acts}
use Rattle.found_laws.specs.Laws.{FoundActsAreOne}

-- ---- reach

one_test : (a b : Bool) → (a ≡ true → b ≡ true) → (b ≡ true → a ≡ true) → a ≡ b
one_test true b to from = sym (to refl)
one_test false true to from = from refl
one_test false false to from = refl

one_reached : (code : Code) (marks others : List Bool) → TellsReached code marks
    → TellsReached code others → marks ≡ others
one_reached code marks others one other =
    ext_get_or false marks others (one.long ∙ sym other.long)
    (λ at lt.
    let low : at < length code.ins = subst (λ n. at < n) one.long lt in
    one_test (get_or marks at false) (get_or others at false)
    (λ is. other.all at low (one.only at is)) (λ is. one.all at low (other.only at is)))

one_reach : (code : Code) (acts others : List Act) → IsReachEdits code acts
    → IsReachEdits code others → acts ≡ others
one_reach code acts others one other =
    one.2 ∙ ap (runs 0 None) (one_reached code one.0 other.0 one.1 other.1) ∙ sym other.2

-- ---- jumps

module _ (code : Code) where
  goto_there : (from k : ℕ) (i : Ins) → slice_get code.ins from ≡ Some i → i.op ≡ op.Goto k
      → of_ins is_goto code from ≡ true
  goto_there from k i here is =
      ap (λ o. option_map_or (λ (i : Ins). is_goto i.op) o false) here ∙ ap is_goto is

  one_end : (n m from to other : ℕ) → Leads code n from to → of_ins is_goto code to ≡ false
      → Leads code m from other → of_ins is_goto code other ≡ false → to ≡ other
  one_end zero zero from to other a end b stop = sym a ∙ b
  one_end zero (suc m) from to other a end b stop =
      absurd (both_ways _ (subst (λ x. of_ins is_goto code x ≡ false) (sym a) end)
      (goto_there from b.1 b.0 b.2 b.3))
  one_end (suc n) zero from to other a end b stop =
      absurd (both_ways _ (subst (λ x. of_ins is_goto code x ≡ false) (sym b) stop)
      (goto_there from a.1 a.0 a.2 a.3))
  one_end (suc n) (suc m) from to other a end b stop =
      let same : b.0 ≡ a.0 = same_Some b.0 a.0 (sym b.2 ∙ a.2) in
      let gotos : op.Goto b.1 ≡ op.Goto a.1 = sym b.3 ∙ (ap (λ (i : Ins). i.op) same ∙ a.3) in
      let next : b.1 ≡ a.1 = cc in
      one_end n m a.1 to other a.4 end (subst (λ x. Leads code m x other) next b.4) stop

  one_told : (from : ℕ) (a b : Option ℕ) → EndIs code from a → EndIs code from b → a ≡ b
  one_told from None None a b = refl
  one_told from None (Some to) a b = absurd (a to b)
  one_told from (Some to) None a b = absurd (b to a)
  one_told from (Some to) (Some other) a b =
      ap Some (one_end a.0.0 b.0.0 from to other a.0.1 a.1 b.0.1 b.1)

  module _ (sound : IsSound code) (ends others : ℕ → Option ℕ) (one : TellsEnds code ends)
      (other : TellsEnds code others) where
    abbrev AreSame : ℕ → Type 0
    AreSame to = end_of ends to ≡ end_of others to

    same_end : (to : ℕ) → to < length code.ins → AreSame to
    same_end to lt =
        ap (λ o. unwrap_or o to) (one_told to (ends to) (others to) (one to lt) (other to lt))

    same_aims : (at which : ℕ) (tos : List ℕ) → AllByRecursion AreSame tos
        → aims_on ends at which tos ≡ aims_on others at which tos
    same_aims at which [] h = refl
    same_aims at which (to ∷ tos) h =
        ap (λ end. cond (end == to) (aims_on ends at (suc which) tos)
        (act.Aim at which end ∷ aims_on ends at (suc which) tos)) h.0
        ∙ ap (λ rest. cond (end_of others to == to) rest
        (act.Aim at which (end_of others to) ∷ rest)) (same_aims at (suc which) tos h.1)

    same_next : (at : ℕ) (o : Op) → AllByRecursion AreSame (targets o)
        → leads_next ends at (skip_target o) ≡ leads_next others at (skip_target o)
    same_next at (op.Goto to) h = ap (λ end. end == at + 1) h.0
    same_next at (op.IfZero c to) h = ap (λ end. end == at + 1) h.0
    same_next at (op.IfNull null to) h = ap (λ end. end == at + 1) h.0
    same_next at (op.IfCmp c to) h = ap (λ end. end == at + 1) h.0
    same_next at (op.IfRef eq to) h = ap (λ end. end == at + 1) h.0
    same_next at o h = refl

    all_aims : (at : ℕ) (ins : List Ins)
        → AllByRecursion (λ (i : Ins). AllByRecursion AreSame (targets i.op)) ins
        → aims_from ends at ins ≡ aims_from others at ins
    all_aims at [] h = refl
    all_aims at (i ∷ ins) h =
        ap (λ l. l ++ aims_from ends (suc at) ins) (same_aims at 0 (targets i.op) h.0)
        ∙ ap (λ l. aims_on others at 0 (targets i.op) ++ l) (all_aims (suc at) ins h.1)

    all_skips : (at : ℕ) (ins : List Ins)
        → AllByRecursion (λ (i : Ins). AllByRecursion AreSame (targets i.op)) ins
        → skips_from ends at ins ≡ skips_from others at ins
    all_skips at [] h = refl
    all_skips at (i ∷ ins) h =
        ap (λ b. cond b (act.Skip at ∷ skips_from ends (suc at) ins) (skips_from ends (suc at) ins))
        (same_next at i.op h.0)
        ∙ ap (λ rest. cond (leads_next others at (skip_target i.op)) (act.Skip at ∷ rest) rest)
        (all_skips (suc at) ins h.1)

    each_same : AllByRecursion (λ (i : Ins). AllByRecursion AreSame (targets i.op)) code.ins
    each_same = all_from (λ (i : Ins). AllByRecursion AreSame (targets i.op)) code.ins
        (λ at i here. all_weaker (λ t. t < length code.ins) AreSame same_end (targets i.op)
        (sound.jump at i here))

    same_jumps : aims_from ends 0 code.ins ++ skips_from ends 0 code.ins
        ≡ aims_from others 0 code.ins ++ skips_from others 0 code.ins
    same_jumps =
        ap (λ l. l ++ skips_from ends 0 code.ins) (all_aims 0 code.ins each_same)
        ∙ ap (λ l. aims_from others 0 code.ins ++ l) (all_skips 0 code.ins each_same)

-- ---- all

pub one_acts : FoundActsAreOne
one_acts Reach code acts others sound one other = one_reach code acts others one other
one_acts Const code acts others sound one other = one_list_of_acts code acts others one other
one_acts Slots code acts others sound one other = one ∙ sym other
one_acts Jumps code acts others sound one other =
    one.2 ∙ (same_jumps code sound one.0 other.0 one.1 other.1 ∙ sym other.2)
