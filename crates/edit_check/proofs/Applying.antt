-- The code that tables give in one pass is the code after the acts, for each pass.
use Rattle.std.proofs.Common.{ℕ, zero, suc, ◌+◌, ◌-◌, ◌<◌, ◌≤◌, List, [], ◌∷◌, Option, Some, None}
use Rattle.std.proofs.Common.{Bool, true, false, ◌≡◌, ◌≢◌, ◌⊎◌}
use Rattle.std.proofs.Common.{inl, inr, refl, sym, ap, ◌∙◌, subst, arith}
use Rattle.std.specs.Prelude.{length, map, nat_le, not, slice_get, slice_index_or, ◌&&◌, ◌||◌, ◌==◌}
use Rattle.std.specs.Prelude.{if◌then◌else◌}
use Rattle.std.specs.List.{AllByRecursion, list_any}
use Rattle.std.specs.Option.{option_map, option_map_or, unwrap_or}
use Rattle.std.proofs.lemmas.Bool.Decides.{eqb_tells, leb_tells}
use Rattle.jv_base.proofs.Lists.{all_at, any_where}
use Rattle.class_model.specs.declared.code.Code.{Code}
use Rattle.class_model.specs.declared.code.Ins.{Ins}
use Rattle.class_model.specs.declared.op.Kind.TheVariants as kind
use Rattle.class_model.specs.declared.op.Op.{Op}
use Rattle.class_model.specs.declared.op.Op.TheVariants as op
use Rattle.code_edit.specs.declared.act.Act.{Act}
use Rattle.code_edit.specs.declared.act.Act.TheVariants as act
use Rattle.code_edit.specs.Constants as folding
use Rattle.code_edit.specs.Constants.{AreLegalConst, fold_to, folded, folded_code, is_next}
use Rattle.code_edit.specs.Constants.{is_operand, landed, new_op as new_op_of}
use Rattle.code_edit.specs.Flow.{is_target, of_ins, targets}
use Rattle.code_edit.specs.Jumps.{AreLegalJumps, IsLegalJump, aim, is_goto, is_skipped, jumped}
use Rattle.code_edit.specs.Jumps.{jumped_code}
use Rattle.code_edit.specs.Jumps.{skip_target, skipped, skips, stays}
use Rattle.code_edit.specs.Reach.{AreLegalDrops, IsLegalDrop, drops, is_left, left_code}
use Rattle.code_edit.specs.Rewriting.{compacted, map_from, place, retargeted, rewritten, with_op}
use Rattle.code_edit.specs.Slots.{goes, is_cut, is_inc, is_push, is_store, popped, slotted}
use Rattle.code_edit.specs.Slots.{slotted_code, takes_push}
use Rattle.code_edit.specs.SoundCode.{IsSound}
use Rattle.edit_premises.proofs.AppliedSound.{aimed_below}
use Rattle.edit_premises.proofs.Folds.{Here, here, no_fold, one_here, two_here}
use Rattle.edit_premises.proofs.FoldsSound.{in_place_long, in_place_sound}
use Rattle.edit_premises.proofs.Places.{get_below, map_from_get}
use Rattle.const_tables.proofs.FoldTable.{fold_list, folds_tell, no_operand, unfolded_list}
use Rattle.const_tables.proofs.FoldTable.{unfolded_long, unfolded_where}
use Rattle.edit_check.specs.Changed.{changed, cut_op, goto_op, new_op, skip_op}
use Rattle.edit_tables.specs.Marks.{has, none, target_marks, with_cuts, with_skips}
use Rattle.edit_tables.specs.Places.{counts_from, lives_in, place_in}
use Rattle.edit_tables.specs.Swept.{swept_of}
use Rattle.edit_check.specs.Uncut.{is_uncut, takes, uncut}
use Rattle.edit_check.proofs.OnePass.{changed_is}
use Rattle.edit_tables.proofs.Counting.{place_is}
use Rattle.edit_tables.proofs.Marking.{cuts_marked, skips_marked, targets_marked}
use Rattle.edit_tables.proofs.Staying.{and_false, from_long, going, going_long, going_where, none_at}
use Rattle.edit_tables.proofs.Staying.{outside, skip_list, told_at}
use Rattle.edit_tables.proofs.Sweeping.{swept_is, swept_long}
use Rattle.edit_check.proofs.Targets.{retargeted_same, retargeted_twice}

-- ---- targets that no aim moves

module _ (code : Code) (sound : IsSound code) (lives : List Bool)
    (long : length lives ≡ length code.ins) where
  abbrev places : List ℕ
  places = counts_from 0 lives

  abbrev to : ℕ → ℕ → ℕ
  to which t = place (lives_in lives) t

  below : (at : ℕ) (i : Ins) → slice_get code.ins at ≡ Some i → (which t : ℕ)
      → slice_get (targets i.op) which ≡ Some t → t ≤ length lives
  below at i e which t x =
      let lt : t < length code.ins =
      all_at (λ t. t < length code.ins) (targets i.op) which t (sound.jump at i e) x in
      subst (λ n. t ≤ n) (sym long) (omega (arith, lt))

  stays_put : (aimed : ℕ → ℕ → ℕ → ℕ) → ((at which t : ℕ) → aimed at which t ≡ t)
      → (at : ℕ) (i : Ins)
      → slice_get code.ins at ≡ Some i
      → retargeted (λ which t. place_in places (aimed at which t)) i.op ≡ retargeted to i.op
  stays_put aimed same at i e =
      retargeted_same (λ which t. place_in places (aimed at which t)) to i.op
      (λ which t x. ap (place_in places) (same at which t)
      ∙ place_is lives t (below at i e which t x))

-- ---- reach

id_is : (k : ℕ) (xs : List Ins) → map_from (λ at i. with_op (λ o. o) i) k xs ≡ xs
id_is k [] = refl
id_is k (x ∷ xs) = ap (λ (t : List Ins). x ∷ t) (id_is (suc k) xs)

module _ (all : List Act) (code : Code) where
  none_drops : (at : ℕ) → length code.ins ≤ at → (acts : List Act)
      → AllByRecursion (IsLegalDrop all code) acts
      → list_any (drops at) acts ≡ false
  none_drops at le [] h = refl
  none_drops at le (act.Drop from end ∷ acts) h =
      by (leb_tells from at) (leb_tells at end) (none_drops at le acts h.1)
    where
      by : ((nat_le from at ≡ true) × (from ≤ at)) ⊎ ((nat_le from at ≡ false) × (at < from))
          → ((nat_le at end ≡ true) × (at ≤ end)) ⊎ ((nat_le at end ≡ false) × (end < at))
          → list_any (drops at) acts ≡ false
          → ((nat_le from at && nat_le at end) || list_any (drops at) acts) ≡ false
      by p (inl q) rest = absurd (omega (arith, q.1, h.0.1, le))
      by p (inr q) rest =
          ap (λ b. (nat_le from at && b) || list_any (drops at) acts) q.0
          ∙ ap (λ b. b || list_any (drops at) acts) (and_false (nat_le from at)) ∙ rest
  none_drops at le (a ∷ acts) h = none_drops at le acts h.1

  module _ (legal : AreLegalDrops all code) where
    left_where : (at : ℕ) → lives_in (swept_of all (length code.ins)) at ≡ is_left all at
    left_where at = by (leb_tells (suc at) (length code.ins))
      where
        by : ((nat_le (suc at) (length code.ins) ≡ true) × (suc at ≤ length code.ins))
            ⊎ ((nat_le (suc at) (length code.ins) ≡ false) × (length code.ins < suc at))
            → lives_in (swept_of all (length code.ins)) at ≡ is_left all at
        by (inl p) = swept_is all (length code.ins) at (omega (arith, p.1))
        by (inr p) =
            let le : length code.ins ≤ at = omega (arith, p.1) in
            outside (swept_of all (length code.ins)) at
            (subst (λ n. n ≤ at) (sym (swept_long all (length code.ins))) le)
            ∙ sym (ap not (none_drops at le all legal))

    pub reach_is : IsSound code → (aimed : ℕ → ℕ → ℕ → ℕ)
        → ((at which t : ℕ) → aimed at which t ≡ t)
        → changed (swept_of all (length code.ins)) [] [] [] aimed code ≡ left_code all code
    reach_is sound aimed same =
        let lives = swept_of all (length code.ins) in
        changed_is lives [] [] [] aimed (λ at o. o) code
        (swept_long all (length code.ins)) sound.handlers
        (λ at i e l. stays_put code sound lives
        (swept_long all (length code.ins)) aimed same at i e)
        ∙ ap (λ (f : ℕ → Bool). compacted f (rewritten (λ at o. o) code)) (λ i at. left_where at i)
        ∙ ap (λ (xs : List Ins). compacted (is_left all) (record code { ins = xs; frames = [] }))
        (id_is 0 code.ins)

-- ---- const

module _ (acts : List Act) (code : Code) (sound : IsSound code) (right : AreLegalConst acts code)
    (aimed : ℕ → ℕ → ℕ → ℕ) (same : (at which t : ℕ) → aimed at which t ≡ t) where
  abbrev fold_lives : List Bool
  fold_lives = unfolded_list acts code

  abbrev fold_to_place : ℕ → ℕ → ℕ
  fold_to_place which t = place (lives_in fold_lives) t

  abbrev folded_here : ℕ → Op → Op
  folded_here at o =
      retargeted (λ which t. place_in (counts_from 0 fold_lives) (aimed at which t)) o

  folded_ins : (at to : ℕ) → fold_to acts at ≡ Some to
      → (i : Ins) × (slice_get code.ins at ≡ Some i)
  folded_ins at to e = by (here acts code right at)
    where
      by : Here acts code right at → (i : Ins) × (slice_get code.ins at ≡ Some i)
      by (no_fold g c) = absurd (let q : None ≡ Some to = sym g ∙ e in cc)
      by (one_here t g h c) = (h.ins, h.here)
      by (two_here t g h c) = (h.ins, h.here)

  -- what becomes a goto leads to an index of the code
  fold_below : (at to : ℕ) (i : Ins) → slice_get code.ins at ≡ Some i
      → is_operand acts code at ≡ false → fold_to acts at ≡ Some to → (to == at + 1) ≡ false
      → to < length code.ins
  fold_below at to i e p q n =
      let r = in_place_sound acts code right sound in
      let z : 0 + at ≡ at = omega arith in
      let there =
      map_from_get (λ k (x : Ins). with_op (folded acts code k) x) 0 code.ins at
      ∙ ap (λ k. option_map (with_op (folded acts code k)) (slice_get code.ins at)) z
      ∙ ap (option_map (with_op (folded acts code at))) e in
      let is : folded acts code at i.op ≡ op.Goto to =
      (λ k. new_op_of (p k) (q k) at i.op) ∙ ap (λ b. if b then op.Nop else op.Goto to) n in
      subst (λ m. to < m) (in_place_long acts code right sound)
      (subst (λ o. AllByRecursion (λ t. t < length (rewritten (folded acts code) code).ins)
      (targets o)) is (r.jump at (with_op (folded acts code at) i) there)).0

  nothing_folded : (at : ℕ) → length code.ins ≤ at → (f : Option ℕ) → fold_to acts at ≡ f
      → is_next at f ≡ false
  nothing_folded at le None e = refl
  nothing_folded at le (Some to) e =
      let i = folded_ins at to e in
      absurd (omega (arith, le, get_below code.ins at i.0 i.1))

  fold_where : (at : ℕ) → lives_in fold_lives at ≡ not (folding.goes acts code at)
  fold_where at = by (leb_tells (suc at) (length code.ins))
    where
      by : ((nat_le (suc at) (length code.ins) ≡ true) × (suc at ≤ length code.ins))
          ⊎ ((nat_le (suc at) (length code.ins) ≡ false) × (length code.ins < suc at))
          → lives_in fold_lives at ≡ not (folding.goes acts code at)
      by (inl p) = unfolded_where acts code at (omega (arith, p.1))
      by (inr p) =
          let le : length code.ins ≤ at = omega (arith, p.1) in
          outside fold_lives at (subst (λ n. n ≤ at) (sym (unfolded_long acts code)) le)
          ∙ ap not (sym (ap (λ b. b || is_next at (fold_to acts at)) (no_operand acts code at le)
          ∙ nothing_folded at le (fold_to acts at) refl))

  -- what a fold leaves becomes a goto; any other instruction that lives stays
  goto_is : (at : ℕ) (i : Ins) → slice_get code.ins at ≡ Some i → (f : Option ℕ)
      → is_operand acts code at ≡ false → fold_to acts at ≡ f → is_next at f ≡ false
      → unwrap_or (goto_op (counts_from 0 fold_lives) f) (folded_here at i.op)
      ≡ retargeted fold_to_place (landed at i.op f)
  goto_is at i e None p q n =
      stays_put code sound fold_lives (unfolded_long acts code) aimed same at i e
  goto_is at i e (Some to) p q n =
      ap op.Goto (place_is fold_lives to (below (fold_below at to i e p q n)))
      ∙ ap (λ b. retargeted fold_to_place (if b then op.Nop else op.Goto to)) (sym n)
    where
      below : to < length code.ins → to ≤ length fold_lives
      below lt = subst (λ m. to ≤ m) (sym (unfolded_long acts code)) (omega (arith, lt))

  fold_ops : (at : ℕ) (i : Ins) → slice_get code.ins at ≡ Some i → lives_in fold_lives at ≡ true
      → new_op fold_lives [] [] (fold_list acts code) aimed (counts_from 0 fold_lives) at i.op
      ≡ retargeted fold_to_place (folded acts code at i.op)
  fold_ops at i e l =
      let lt : at < length code.ins = get_below code.ins at i e in
      let gone = none_gone (is_operand acts code at) (is_next at (fold_to acts at))
      (un_not _ (sym (fold_where at) ∙ l)) in
      ap (λ f. unwrap_or (goto_op (counts_from 0 fold_lives) f) (folded_here at i.op))
      (folds_tell acts (length code.ins) at lt)
      ∙ goto_is at i e (fold_to acts at) gone.0 refl gone.1
      ∙ ap (λ b. retargeted fold_to_place (new_op_of b (fold_to acts at) at i.op)) (sym gone.0)
    where
      un_not : (b : Bool) → not b ≡ true → b ≡ false
      un_not true q = absurd cc
      un_not false q = refl

      none_gone : (a b : Bool) → (a || b) ≡ false → (a ≡ false) × (b ≡ false)
      none_gone true b q = absurd cc
      none_gone false b q = (refl, q)

  pub folds_is : changed fold_lives [] [] (fold_list acts code) aimed code ≡ folded_code acts code
  folds_is =
      changed_is fold_lives [] [] (fold_list acts code) aimed (folded acts code) code
      (unfolded_long acts code) sound.handlers fold_ops
      ∙ ap (λ (f : ℕ → Bool). compacted f (rewritten (folded acts code) code))
      (λ i at. fold_where at i)

-- ---- slots

module _ (acts : List Act) (code : Code) where
  abbrev cuts : List Bool
  cuts = with_cuts acts (none (length code.ins))

  abbrev target_list : List Bool
  target_list = target_marks code

  nothing_at : (test : Op → Bool) (at : ℕ) → length code.ins ≤ at → of_ins test code at ≡ false
  nothing_at test at le =
      ap (λ o. option_map_or (λ (i : Ins). test i.op) o false) (none_at code.ins at le)

  no_middle : (a b c : Bool) → b ≡ false → (a && (b && c)) ≡ false
  no_middle true true c e = absurd cc
  no_middle true false c e = refl
  no_middle false b c e = refl

  takes_is : (at : ℕ) → takes cuts target_list code at ≡ takes_push acts code at
  takes_is at = by (leb_tells (suc at) (length code.ins))
    where
      by : ((nat_le (suc at) (length code.ins) ≡ true) × (suc at ≤ length code.ins))
          ⊎ ((nat_le (suc at) (length code.ins) ≡ false) × (length code.ins < suc at))
          → takes cuts target_list code at ≡ takes_push acts code at
      by (inl p) =
          ap (λ b. b && (of_ins is_store code at
          && (of_ins is_push code (at - 1) && not (has target_list at))))
          (cuts_marked acts (length code.ins) at (omega (arith, p.1)))
          ∙ ap (λ b. is_cut acts at && (of_ins is_store code at
          && (of_ins is_push code (at - 1) && not b))) (targets_marked code at (omega
          (arith, p.1)))
      by (inr p) =
          let gone = nothing_at is_store at (omega (arith, p.1)) in
          no_middle (has cuts at) (of_ins is_store code at) _ gone
          ∙ sym (no_middle (is_cut acts at) (of_ins is_store code at) _ gone)

  inc_is : (at : ℕ)
      → (has cuts at && of_ins is_inc code at) ≡ (is_cut acts at && of_ins is_inc code at)
  inc_is at = by (leb_tells (suc at) (length code.ins))
    where
      by : ((nat_le (suc at) (length code.ins) ≡ true) × (suc at ≤ length code.ins))
          ⊎ ((nat_le (suc at) (length code.ins) ≡ false) × (length code.ins < suc at))
          → (has cuts at && of_ins is_inc code at) ≡ (is_cut acts at && of_ins is_inc code at)
      by (inl p) =
          ap (λ b. b && of_ins is_inc code at)
          (cuts_marked acts (length code.ins) at (omega (arith, p.1)))
      by (inr p) =
          let gone = nothing_at is_inc at (omega (arith, p.1)) in
          ap (λ b. has cuts at && b) gone ∙ and_false (has cuts at)
          ∙ sym (ap (λ b. is_cut acts at && b) gone ∙ and_false (is_cut acts at))

  uncut_is : (at : ℕ) → is_uncut cuts target_list code at ≡ not (goes acts code at)
  uncut_is at = λ i. not (takes_is (at + 1) i || (takes_is at i || inc_is at i))

  not_going : (at : ℕ) → length code.ins ≤ at → goes acts code at ≡ false
  not_going at le =
      ap (λ b. b || (takes_push acts code at || (is_cut acts at && of_ins is_inc code at)))
      (no_middle (is_cut acts (at + 1)) (of_ins is_store code (at + 1)) _
      (nothing_at is_store (at + 1) (omega (arith, le))))
      ∙ ap (λ b. b || (is_cut acts at && of_ins is_inc code at))
      (no_middle (is_cut acts at) (of_ins is_store code at) _ (nothing_at is_store at le))
      ∙ ap (λ b. is_cut acts at && b) (nothing_at is_inc at le) ∙ and_false (is_cut acts at)

  abbrev kept : List Bool
  kept = uncut cuts target_list code

  pub kept_long : length kept ≡ length code.ins
  kept_long = from_long (λ at (i : Ins). is_uncut cuts target_list code at) 0 code.ins

  pub kept_where : (at : ℕ) → lives_in kept at ≡ not (goes acts code at)
  kept_where at = by (slice_get code.ins at) refl
    where
      by : (o : Option Ins) → slice_get code.ins at ≡ o → lives_in kept at ≡ not (goes acts code at)
      by (Some i) e =
          told_at (λ at (i : Ins). is_uncut cuts target_list code at) 0 code.ins at i e
          ∙ (let z : 0 + at ≡ at = omega arith in ap (is_uncut cuts target_list code) z)
          ∙ uncut_is at
      by None e = far (leb_tells (suc at) (length code.ins))
        where
          far : ((nat_le (suc at) (length code.ins) ≡ true) × (suc at ≤ length code.ins))
              ⊎ ((nat_le (suc at) (length code.ins) ≡ false) × (length code.ins < suc at))
              → lives_in kept at ≡ not (goes acts code at)
          far (inl p) = absurd (missing code.ins at (omega (arith, p.1)) e)
            where
              missing : (xs : List Ins) (k : ℕ) → k < length xs → slice_get xs k ≡ None → ⊥
              missing [] k lt q = omega (arith, lt)
              missing (x ∷ xs) zero lt q = absurd cc
              missing (x ∷ xs) (suc k) lt q = missing xs k (omega (arith, lt)) q
          far (inr p) =
              let le : length code.ins ≤ at = omega (arith, p.1) in
              outside kept at (subst (λ n. n ≤ at) (sym kept_long) le)
              ∙ sym (ap not (not_going at le))

  module _ (sound : IsSound code) (aimed : ℕ → ℕ → ℕ → ℕ) (same : (at which t : ℕ)
      → aimed at which t ≡ t) where
    abbrev slot_to : ℕ → ℕ → ℕ
    slot_to which t = place (lives_in kept) t

    abbrev moved_here : ℕ → Op → Op
    moved_here at o = retargeted (λ which t. place_in (counts_from 0 kept) (aimed at which t)) o

    -- a store that is cut becomes what takes its value; any other instruction stays
    cut_op_is : (at : ℕ) (o : Op) (c : Bool) → moved_here at o ≡ retargeted slot_to o
        → unwrap_or (if c then cut_op o else None) (moved_here at o) ≡ retargeted slot_to
        (if c then popped o else o)
    cut_op_is at (op.Store kind.Int slot) true h = refl
    cut_op_is at (op.Store kind.Long slot) true h = refl
    cut_op_is at (op.Store kind.Ref slot) true h = refl
    cut_op_is at o true h = h
    cut_op_is at o false h = h

    slot_ops : (at : ℕ) (i : Ins) → slice_get code.ins at ≡ Some i → lives_in kept at ≡ true
        → new_op kept cuts [] [] aimed (counts_from 0 kept) at i.op ≡ retargeted slot_to
        (slotted acts code at i.op)
    slot_ops at i e l =
        let lt : at < length code.ins = get_below code.ins at i e in
        let stays_here : goes acts code at ≡ false =
        un_not (goes acts code at) (sym (kept_where at) ∙ l) in
        ap (λ c. unwrap_or (if c then cut_op i.op else None) (moved_here at i.op))
        (cuts_marked acts (length code.ins) at lt)
        ∙ cut_op_is at i.op (is_cut acts at) (stays_put code sound kept kept_long aimed same at i e)
        ∙ ap
        (λ b. retargeted slot_to
        (if b then op.Nop else if is_cut acts at then popped i.op else i.op))
        (sym stays_here)
      where
        un_not : (b : Bool) → not b ≡ true → b ≡ false
        un_not true q = absurd cc
        un_not false q = refl

    pub slots_is : changed kept cuts [] [] aimed code ≡ slotted_code acts code
    slots_is =
        changed_is kept cuts [] [] aimed (slotted acts code) code kept_long sound.handlers slot_ops
        ∙ ap (λ (f : ℕ → Bool). compacted f (rewritten (slotted acts code) code))
        (λ i at. kept_where at i)

-- ---- jumps

module _ (acts : List Act) (code : Code) where
  module _ (sound : IsSound code) (legal : AreLegalJumps acts code) (aimed : ℕ → ℕ → ℕ → ℕ)
      (same : (at which t : ℕ) → aimed at which t ≡ aim acts at which t) where
    abbrev jump_to : ℕ → ℕ → ℕ
    jump_to which t = place (lives_in (going acts code)) t

    abbrev jump_here : ℕ → Op → Op
    jump_here at o = retargeted (λ which t. place_in (counts_from 0 (going acts code)) (aimed at which t)) o

    aim_here : (at : ℕ) (i : Ins) → slice_get code.ins at ≡ Some i
        → jump_here at i.op ≡ retargeted jump_to (retargeted (aim acts at) i.op)
    aim_here at i e =
        retargeted_same (λ which t. place_in (counts_from 0 (going acts code)) (aimed at which t))
        (λ which t. jump_to which (aim acts at which t)) i.op
        (λ which t x.
        let lt : aim acts at which t < length code.ins =
        aimed_below acts code sound legal at i e which t x in
        ap (place_in (counts_from 0 (going acts code))) (same at which t)
        ∙ place_is (going acts code) (aim acts at which t)
        (subst (λ n. aim acts at which t ≤ n) (sym (going_long acts code)) (omega (arith, lt))))
        ∙ sym (retargeted_twice (aim acts at) jump_to i.op)

    -- what may be skipped becomes what takes its operands
    skip_is : (at : ℕ) (o : Op) (t : ℕ) → skip_target o ≡ Some t
        → unwrap_or (skip_op o) (jump_here at o) ≡ retargeted jump_to (skipped o)
    skip_is at (op.Goto k) t e = refl
    skip_is at (op.IfZero c k) t e = refl
    skip_is at (op.IfNull c k) t e = refl
    skip_is at (op.IfCmp c k) t e = refl
    skip_is at (op.IfRef c k) t e = refl
    skip_is at o t e = absurd cc

    right_skip : (at : ℕ) (i : Ins) → slice_get code.ins at ≡ Some i → (a : Act)
        → IsLegalJump acts code a
        → skips at a ≡ true → (t : ℕ) × (skip_target i.op ≡ Some t)
    right_skip at i e (act.Skip spot) h q = by (eqb_tells at spot)
      where
        by : (((at == spot) ≡ true) × (at ≡ spot)) ⊎ (((at == spot) ≡ false) × (at ≢ spot))
            → (t : ℕ) × (skip_target i.op ≡ Some t)
        by (inl p) =
            let one : Some i ≡ Some h.0 = sym e ∙ ap (slice_get code.ins) p.1 ∙ h.2 in
            let ins : i ≡ h.0 = cc in
            (h.1, ap (λ (x : Ins). skip_target x.op) ins ∙ h.3)
        by (inr p) = absurd (let no : true ≡ false = sym q ∙ p.0 in cc)
    right_skip at i e a h q = absurd cc

    jump_ops : (at : ℕ) (i : Ins) → slice_get code.ins at ≡ Some i → lives_in (going acts code) at ≡ true
        → new_op (going acts code) [] (skip_list acts code) [] aimed (counts_from 0 (going acts code)) at i.op ≡ retargeted jump_to
        (jumped acts at i.op)
    jump_ops at i e l =
        let lt : at < length code.ins = get_below code.ins at i e in
        ap (λ b. unwrap_or (if b then skip_op i.op else None) (jump_here at i.op))
        (skips_marked acts (length code.ins) at lt)
        ∙ by (is_skipped acts at) refl
      where
        by : (b : Bool) → is_skipped acts at ≡ b
            → unwrap_or (if b then skip_op i.op else None) (jump_here at i.op)
            ≡ retargeted jump_to (if b then skipped i.op else retargeted (aim acts at) i.op)
        by false q = aim_here at i e
        by true q =
            let x = any_where (skips at) acts q in
            let r =
            right_skip at i e x.1 (all_at (IsLegalJump acts code) acts x.0 x.1 legal x.2) x.3 in
            skip_is at i.op r.0 r.1

    pub jumps_is : changed (going acts code) [] (skip_list acts code) [] aimed code ≡ jumped_code acts code
    jumps_is =
        changed_is (going acts code) [] (skip_list acts code) [] aimed (jumped acts) code (going_long acts code) sound.handlers jump_ops
        ∙ ap (λ (f : ℕ → Bool). compacted f (rewritten (jumped acts) code))
        (λ i at. going_where acts code at i)
