-- The chain of gotos from each index has an end, or none.
use Rattle.std.proofs.Common.{◌≡◌, ◌⊎◌, inl, inr, ⊎_elim, ℕ, zero, suc, ◌≤◌, ◌<◌, true, false}
use Rattle.std.proofs.Common.{List, length, replicate, get_or, set, refl, sym, ap, subst, ◌∙◌, arith}
use Rattle.std.proofs.Common.{length-set, Option, Some, None}
use Rattle.std.specs.Prelude.{slice_get}
use Rattle.std.specs.List.{AllByRecursion}
use Rattle.std.specs.Option.{option_map_or}
use Rattle.std.proofs.lemmas.Bool.{both_ways, cases_lt}
use Rattle.std.proofs.lemmas.List.{get_or_past, get_or-replicate, length-replicate}
use Rattle.std.proofs.lemmas.Option.{same_Some}
use Rattle.jv_base.proofs.Lists.{found_at}
use Rattle.class_model.specs.declared.code.Code.{Code}
use Rattle.class_model.specs.declared.code.Ins.{Ins}
use Rattle.class_model.specs.declared.op.Op.{Op}
use Rattle.class_model.specs.declared.op.Op.TheVariants as op
use Rattle.code_edit.specs.Flow.{of_ins, targets}
use Rattle.code_edit.specs.Jumps.{Leads, is_goto}
use Rattle.code_edit.specs.Passes.{EndIs, IsEnd, TellsEnds}
use Rattle.code_edit.specs.SoundCode.{IsSound}
use Rattle.found_laws.proofs.Settling.{Lacks, after_set, below_or, settle}

-- an operation is a goto or none
goto_or : (o : Op) → ((k : ℕ) × (o ≡ op.Goto k)) ⊎ (is_goto o ≡ false)
goto_or (op.Goto k) = inl (k, refl)
goto_or o = inr refl

module _ (code : Code) (sound : IsSound code) where
  abbrev told : List (Option ℕ) → ℕ → Option ℕ
  told ends from = get_or ends from None

  -- what is told is an end
  record AreEnds (ends : List (Option ℕ)) : Type 0 where
    long : length ends ≡ length code.ins
    only : (from to : ℕ) → told ends from ≡ Some to → IsEnd code from to

  -- where none is told, a goto leads to where none is told
  abbrev GoesOn : List (Option ℕ) → ℕ → Type 0
  GoesOn ends from = told ends from ≡ None
      → (i : Ins) × (k : ℕ) × (slice_get code.ins from ≡ Some i) × (i.op ≡ op.Goto k)
      × (told ends k ≡ None)

  abbrev AllGoOn : List (Option ℕ) → Type 0
  AllGoOn ends = (from : ℕ) → from < length code.ins → GoesOn ends from

  abbrev rank : Option ℕ → ℕ
  rank None = 1
  rank (Some to) = 0

  abbrev LacksEnd : List (Option ℕ) → Type 0
  LacksEnd = Lacks (Option ℕ) rank None AreEnds AllGoOn

  goto_there : (from : ℕ) (i : Ins) → slice_get code.ins from ≡ Some i
      → of_ins is_goto code from ≡ is_goto i.op
  goto_there from i here = ap (λ o. option_map_or (λ (i : Ins). is_goto i.op) o false) here

  module _ (ends : List (Option ℕ)) (good : AreEnds ends) where
    put : (from to : ℕ) → IsEnd code from to → from < length ends → AreEnds (set ends from (Some to))
    put from to end lt = record {
      long = length-set ends from (Some to) ∙ good.long;
      only = λ x y is.
          ⊎_elim (λ old. good.only x y (sym old ∙ is))
          (λ new.
          let same : to ≡ y = same_Some to y (sym new.1 ∙ is) in
          subst (λ z. IsEnd code z y) (sym new.0) (subst (IsEnd code from) same end))
          (after_set ends from x (Some to) None lt);
    }

    lacks : (from to : ℕ) → from < length code.ins → told ends from ≡ None → IsEnd code from to
        → LacksEnd ends
    lacks from to lt none end =
        let below : from < length ends = omega (arith, lt, good.long) in
        let one : rank (told ends from) ≡ 1 = ap rank none in
        (from, Some to, below, omega (arith, one), put from to end below)

    to_by : (from k : ℕ) (i : Ins) → from < length code.ins → slice_get code.ins from ≡ Some i
        → i.op ≡ op.Goto k → told ends from ≡ None → (o : Option ℕ) → told ends k ≡ o
        → GoesOn ends from ⊎ LacksEnd ends
    to_by from k i lt here is none None e = inl (λ _. (i, k, here, is, e))
    to_by from k i lt here is none (Some to) e =
        let end = good.only k to e in
        inr (lacks from to lt none ((suc end.0.0, (i, k, here, is, end.0.1)), end.1))

    goes_by : (from : ℕ) → from < length code.ins → (o : Option ℕ) → told ends from ≡ o
        → GoesOn ends from ⊎ LacksEnd ends
    goes_by from lt (Some to) e = inl (λ none. absurd (let q : Some to ≡ None = sym e ∙ none in cc))
    goes_by from lt None e =
        let i = found_at code.ins from lt in
        ⊎_elim (λ goto. to_by from goto.0 i.0 lt i.1 goto.1 e (told ends goto.0) refl)
        (λ other. inr (lacks from from lt e ((0, refl), goto_there from i.0 i.1 ∙ other)))
        (goto_or i.0.op)

    all_or_lacks : AllGoOn ends ⊎ LacksEnd ends
    all_or_lacks = below_or (GoesOn ends) (length code.ins)
        (λ from lt. goes_by from lt (told ends from) refl)

  module _ (ends : List (Option ℕ)) (all : AllGoOn ends) where
    none_ends : (n from to : ℕ) → from < length code.ins → told ends from ≡ None
        → Leads code n from to → of_ins is_goto code to ≡ false → ⊥
    none_ends zero from to lt none leads other =
        let goes = all from lt none in
        let goto : of_ins is_goto code from ≡ true =
        goto_there from goes.0 goes.2 ∙ ap is_goto goes.3 in
        both_ways _ other (subst (λ x. of_ins is_goto code x ≡ true) leads goto)
    none_ends (suc n) from to lt none leads other =
        let goes = all from lt none in
        let same : goes.0 ≡ leads.0 = same_Some goes.0 leads.0 (sym goes.2 ∙ leads.2) in
        let gotos : op.Goto goes.1 ≡ op.Goto leads.1 =
        sym goes.3 ∙ (ap (λ (i : Ins). i.op) same ∙ leads.3) in
        let to_same : goes.1 ≡ leads.1 = cc in
        let below : goes.1 < length code.ins =
        (subst (λ o. AllByRecursion (λ t. t < length code.ins) (targets o)) goes.3
        (sound.jump from goes.0 goes.2)).0 in
        none_ends n goes.1 to below goes.4
        (subst (λ x. Leads code n x to) (sym to_same) leads.4) other

  none_told : (n at : ℕ) → told (replicate n None) at ≡ None
  none_told n at =
      ⊎_elim (λ lt. get_or-replicate n at None None lt)
      (λ le. get_or_past (replicate n None) at None
      (subst (λ k. k ≤ at) (sym (length-replicate n None)) le))
      (cases_lt at n)

  pub some_ends : (ends : ℕ → Option ℕ) × TellsEnds code ends
  some_ends =
      let r = settle (Option ℕ) rank None AreEnds AllGoOn all_or_lacks
      (replicate (length code.ins) None)
      (record {
        long = length-replicate (length code.ins) None;
        only = λ from to is.
            absurd (let q : None ≡ Some to = sym (none_told (length code.ins) from) ∙ is in cc);
      }) in
      (told r.0, λ from lt. by r.0 r.1 r.2 from lt (told r.0 from) refl)
    where
      by : (ends : List (Option ℕ)) → AreEnds ends → AllGoOn ends → (from : ℕ)
          → from < length code.ins → (o : Option ℕ) → told ends from ≡ o → EndIs code from o
      by ends good all from lt (Some to) e = good.only from to e
      by ends good all from lt None e = λ to end. none_ends ends all end.0.0 from to lt e end.0.1 end.1
