-- The acts are those that the definition states.
use Rattle.std.proofs.Common.{ℕ, zero, suc, ◌+◌, ◌<◌, ◌≤◌, List, [], ◌∷◌, ◌++◌, Option, Some, None}
use Rattle.std.proofs.Common.{Bool, true, false, ◌≡◌, refl, sym, ap, ◌∙◌, subst, arith, length}
use Rattle.std.specs.Prelude.{ℤ, map, slice_get, slice_index_or}
use Rattle.std.specs.List.{flat_map}
use Rattle.std.specs.Option.{is_some}
use Rattle.class_model.specs.declared.code.Code.{Code}
use Rattle.class_model.specs.declared.code.Ins.{Ins}
use Rattle.code_edit.specs.declared.act.Act.{Act}
use Rattle.code_edit.specs.ConstEdits.{AreConstActs, AreSlots, ByBound, IsAsked, IsConstEdits}
use Rattle.code_edit.specs.ConstEdits.{IsTaken, Shut, fold_act, fold_target, folds_below}
use Rattle.code_edit.specs.ConstEdits.{is_beyond, runs}
use Rattle.code_edit.specs.Rewriting.{map_from}
use Rattle.edit_tables.specs.Marks.{has}
use Rattle.edit_tables.specs.Places.{lives_in}
use Rattle.jv_base.proofs.Lists.{found_at}
use Rattle.pass_const.specs.Folding.{act_of, acts_to}
use Rattle.pass_const.specs.Known.{KnowsSlots, known_in}
use Rattle.pass_const.specs.Taking.{asked_marks, count_marks, marked_from, slot_marks}
use Rattle.pass_const.proofs.Marking.{are_slots, asked_below, asked_marked, asked_slots}
use Rattle.pass_const.proofs.Marking.{chosen_marked, count_is, marked_chosen}

module _ (code : Code) (known : ℕ → List (Option ℤ)) where
  abbrev target : ℕ → Ins → Option ℕ
  target at i = fold_target known code at

  abbrev targets : List (Option ℕ)
  targets = map_from target 0 code.ins

  -- ---- the items of both lists

  chosen_from : (k : ℕ) (ins : List Ins) (at : ℕ) (i : Ins) → slice_get ins at ≡ Some i
      → lives_in (map is_some (map_from target k ins)) at
      ≡ is_some (fold_target known code (k + at))
  chosen_from k [] at i e = absurd cc
  chosen_from k (x ∷ ins) zero i e =
      let z : k ≡ k + 0 = omega arith in ap (λ n. is_some (fold_target known code n)) z
  chosen_from k (x ∷ ins) (suc at) i e =
      let z : suc k + at ≡ k + suc at = omega arith in
      chosen_from (suc k) ins at i e ∙ ap (λ n. is_some (fold_target known code n)) z

  target_from : (k : ℕ) (ins : List Ins) (at : ℕ) (i : Ins) → slice_get ins at ≡ Some i
      → slice_index_or (map_from target k ins) at None ≡ fold_target known code (k + at)
  target_from k [] at i e = absurd cc
  target_from k (x ∷ ins) zero i e =
      let z : k ≡ k + 0 = omega arith in ap (fold_target known code) z
  target_from k (x ∷ ins) (suc at) i e =
      let z : suc k + at ≡ k + suc at = omega arith in
      target_from (suc k) ins at i e ∙ ap (fold_target known code) z

  pub targets_long : length targets ≡ length code.ins
  targets_long = by 0 code.ins
    where
      by : (k : ℕ) (xs : List Ins) → length (map_from target k xs) ≡ length xs
      by k [] = refl
      by k (x ∷ xs) = ap suc (by (suc k) xs)

  -- ---- the slots that are taken

  is_fold : (o : Option ℕ) → is_some o ≡ true → (to : ℕ) × (o ≡ Some to)
  is_fold None e = absurd cc
  is_fold (Some to) e = (to, refl)

  abbrev taken : List Bool
  taken = slot_marks code (map is_some targets)

  marked_taken : (slot : ℕ) → has taken slot ≡ true → IsTaken known code slot
  marked_taken slot h =
      let x = marked_chosen code (map is_some targets) slot h in
      let z : 0 + x.0 ≡ x.0 = omega arith in
      let f = is_fold (fold_target known code x.0)
      (sym (chosen_from 0 code.ins x.0 x.1 x.2
      ∙ ap (λ n. is_some (fold_target known code n)) z) ∙ x.3) in
      (x.0, f.0, x.1, x.2, f.1, x.4)

  taken_marked : (slot : ℕ) → IsTaken known code slot → has taken slot ≡ true
  taken_marked slot (at, to, i, here, folds, takes) =
      let z : 0 + at ≡ at = omega arith in
      chosen_marked code (map is_some targets) slot (
        at,
        i,
        here,
        chosen_from 0 code.ins at i here
            ∙ ap (λ n. is_some (fold_target known code n)) z ∙ ap is_some folds,
        takes,
      )

  pub taken_slots : AreSlots (IsTaken known code) (marked_from 0 taken)
  taken_slots = are_slots (IsTaken known code) taken marked_taken taken_marked

  -- ---- folds

  same_act : (at : ℕ) (o : Option ℕ) → act_of at o ≡ fold_act known code at o
  same_act at None = refl
  same_act at (Some to) = refl

  folds_are : (n : ℕ) → n ≤ length code.ins → acts_to targets n ≡ folds_below known code n
  folds_are zero le = refl
  folds_are (suc n) le =
      let i = found_at code.ins n (omega (arith, le)) in
      let z : 0 + n ≡ n = omega arith in
      ap (λ l. l ++ act_of n (slice_index_or targets n None)) (folds_are n (omega (arith, le)))
      ∙ ap (λ o. folds_below known code n ++ act_of n o)
      (target_from 0 code.ins n i.0 i.1 ∙ ap (fold_target known code) z)
      ∙ ap (λ l. folds_below known code n ++ l) (same_act n (fold_target known code n))

  pub all_folds : acts_to targets (length targets) ≡ folds_below known code (length code.ins)
  all_folds = ap (acts_to targets) targets_long ∙ folds_are (length code.ins) (omega arith)

-- what is listed, from the lists of what asked slots hold
pub listed_are : (code : Code) (asked : List Bool) (lists : List (List (Option ℤ)))
    → (targets : List (Option ℕ)) (taken : List Bool) (facts acts : List Act)
    → asked ≡ asked_marks code → KnowsSlots code asked (length asked) lists
    → targets ≡ map_from (λ at (i : Ins). fold_target (known_in lists) code at) 0 code.ins
    → taken ≡ slot_marks code (map is_some targets)
    → facts ≡ flat_map (λ slot. runs slot 0 Shut (known_in lists slot)) (marked_from 0 taken)
    → acts ≡ facts ++ acts_to targets (length targets) → AreConstActs code acts
listed_are code asked lists targets taken facts acts is knows at_targets at_taken at_facts at_acts =
    record {
      known = known_in lists;
      largest = λ slot h. knows.largest slot
          (subst (λ l. slot < length l) (sym is) (asked_below code slot h))
          (subst (λ l. has l slot ≡ true) (sym is) (asked_marked code slot h));
      taken = marked_from 0 taken;
      taken_are = subst (λ l. AreSlots (IsTaken (known_in lists) code) (marked_from 0 l))
          (sym (at_taken ∙ ap (λ t. slot_marks code (map is_some t)) at_targets))
          (taken_slots code (known_in lists));
      is = at_acts ∙ ap (λ l. l ++ acts_to targets (length targets)) at_facts
          ∙ ap (λ l. flat_map (λ slot. runs slot 0 Shut (known_in lists slot)) (marked_from 0 taken)
          ++ l)
          (ap (λ t. acts_to t (length t)) at_targets ∙ all_folds code (known_in lists));
    }

-- by the bound
pub edits_are : (code : Code) (asked : List Bool) (acts : List Act) → asked ≡ asked_marks code
    → (b : Bool) → b ≡ is_beyond (count_marks asked) (length code.ins) → ByBound b code acts
    → IsConstEdits code acts
edits_are code asked acts is b e h = record {
  asked = marked_from 0 (asked_marks code);
  asked_are = asked_slots code;
  is = subst (λ x. ByBound x code acts)
      (e ∙ ap (λ l. is_beyond (count_marks l) (length code.ins)) is
      ∙ ap (λ n. is_beyond n (length code.ins)) (sym (count_is 0 (asked_marks code)))) h;
}
