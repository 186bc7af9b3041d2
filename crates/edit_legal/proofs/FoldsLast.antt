-- What folds move past the last index.
use Rattle.std.proofs.Common.{ℕ, ◌+◌, ◌-◌, ◌<◌, ◌≤◌, List, Option, Some, None, Bool, true}
use Rattle.std.proofs.Common.{false, ◌≡◌, ◌⊎◌, inl, inr, refl, sym, ap, ◌∙◌, subst, arith}
use Rattle.std.specs.Prelude.{length, nat_eq, nat_le, not, slice_get, ◌&&◌, ◌||◌, ◌==◌}
use Rattle.std.specs.Prelude.{if◌then◌else◌}
use Rattle.std.specs.List.{AllByRecursion}
use Rattle.std.specs.Option.{option_map}
use Rattle.std.proofs.lemmas.Bool.Decides.{leb_tells}
use Rattle.class_model.specs.declared.code.Code.{Code}
use Rattle.class_model.specs.declared.code.Ins.{Ins}
use Rattle.class_model.specs.declared.op.Op.TheVariants as op
use Rattle.code_edit.specs.declared.act.Act.{Act}
use Rattle.code_edit.specs.declared.act.Act.TheVariants as act
use Rattle.code_edit.specs.declared.act.Pass.TheVariants as pass
use Rattle.code_edit.specs.Applied.{in_place}
use Rattle.code_edit.specs.Constants.{count_of, fold_to, folded, goes, is_fold, is_next, is_operand}
use Rattle.code_edit.specs.Constants.{is_two, landed, new_op, operands_at, takes_along}
use Rattle.code_edit.specs.Deciding.{operands}
use Rattle.code_edit.specs.Flow.{targets}
use Rattle.code_edit.specs.Legal.{IsPastLast, IsStillAimedAt, KeepsLast, branch, entry}
use Rattle.code_edit.specs.Rewriting.{with_op}
use Rattle.code_edit.specs.SoundCode.{IsPlaced, IsSound}
use Rattle.edit_premises.proofs.Places.{get_below, map_from_get}
use Rattle.const_tables.specs.Folding.{folds_of, unfolded}
use Rattle.const_tables.proofs.FoldTable.{folds_tell, unfolded_long, unfolded_where}
use Rattle.edit_legal.specs.Decidable.{is_lost, keeps_last, still_aimed, targets_after}
use Rattle.edit_legal.specs.Decidable.{targets_folded}
use Rattle.edit_legal.specs.Movable.{end_from}
use Rattle.edit_legal.proofs.LastIndex.{end_above, is_le, last_of, le_is}
use Rattle.edit_tables.proofs.Naming.{IsLed, before, enters, led_tells, named}
use Rattle.edit_tables.proofs.Telling.{Tells, and_both, both, is_false, is_not, numbers_same}
use Rattle.edit_tables.proofs.Telling.{same_number, tells, told, un_not}
use Rattle.edit_tables.specs.Marks.{has, none}
use Rattle.edit_tables.specs.Places.{lives_in}
use Rattle.edit_tables.proofs.Marking.{has_none, none_long}

either : (a b : Bool) → (a || b) ≡ true → (a ≡ true) ⊎ (b ≡ true)
either true b e = inl refl
either false b e = inr e

no_or : (a b : Bool) → (a || b) ≡ false → (a ≡ false) × (b ≡ false)
no_or true b e = absurd cc
no_or false b e = (refl, e)

or_no : (a b : Bool) → a ≡ false → b ≡ false → (a || b) ≡ false
or_no true b p q = absurd cc
or_no false b p q = q

left_or : (a b : Bool) → a ≡ true → (a || b) ≡ true
left_or true b e = refl
left_or false b e = absurd cc

right_or : (a b : Bool) → b ≡ true → (a || b) ≡ true
right_or true b e = refl
right_or false b e = e

module _ (acts : List Act) (code : Code) (sound : IsSound code) where
  abbrev n : ℕ
  n = length code.ins

  abbrev folds : List (Option ℕ)
  folds = folds_of acts n

  abbrev lives : List Bool
  lives = unfolded folds code

  abbrev pub end : ℕ
  end = end_from 0 0 lives

  abbrev pub still : List Bool
  still = still_aimed folds lives code

  abbrev names : ℕ → Ins → List ℕ
  names = targets_after folds

  lives_is : (at : ℕ) → at < n → lives_in lives at ≡ not (goes acts code at)
  lives_is at lt = unfolded_where acts code at lt

  long : length lives ≡ n
  long = unfolded_long acts code

  -- the targets of what lives
  names_are : (at : ℕ) (i : Ins) → at < n → not (goes acts code at) ≡ true
      → names at i ≡ targets (folded acts code at i.op)
  names_are at i lt l =
      let gone = no_or (is_operand acts code at) (is_next at (fold_to acts at)) (un_not _ l) in
      ap (λ f. targets_folded f i.op) (folds_tell acts n at lt)
      ∙ by (fold_to acts at) gone.1
      ∙ ap (λ b. targets (new_op b (fold_to acts at) at i.op)) (sym gone.0)
    where
      by : (f : Option ℕ) → is_next at f ≡ false
          → targets_folded f i.op ≡ targets (landed at i.op f)
      by None e = refl
      by (Some to) e =
          ap (λ b. targets (if b then op.Nop else op.Goto to)) (sym e)

  ins_after : (at : ℕ) → slice_get (in_place pass.Const acts code).ins at
      ≡ option_map (with_op (folded acts code at)) (slice_get code.ins at)
  ins_after at =
      map_from_get (λ k (i : Ins). with_op (folded acts code k) i) 0 code.ins at
      ∙ (let z : 0 + at ≡ at = omega arith in
      ap (λ k. option_map (with_op (folded acts code k)) (slice_get code.ins at)) z)

  there : (at : ℕ) → IsLed names lives code (has (none n) at) at
      → IsStillAimedAt pass.Const acts code at
  there at (before e) = let no : true ≡ false = sym e ∙ has_none n at in absurd cc
  there at (named from k i e l s) =
      let lt = get_below code.ins from i e in
      let living = sym (lives_is from lt) ∙ l in
      branch from k (with_op (folded acts code from) i) living
      (ins_after from ∙ ap (option_map (with_op (folded acts code from))) e)
      (ap (λ (ts : List ℕ). slice_get ts k) (sym (names_are from i lt living)) ∙ s)
  there at (enters k from h e lt l c x) =
      let below = subst (λ m. from < m) long lt in
      entry k from h e below (sym (lives_is from below) ∙ l) c x

  back : (at : ℕ) → IsStillAimedAt pass.Const acts code at
      → IsLed names lives code (has (none n) at) at
  back at (branch from which j l e t) = by (slice_get code.ins from) refl (sym (ins_after from) ∙ e)
    where
      by : (o : Option Ins) → slice_get code.ins from ≡ o
          → option_map (with_op (folded acts code from)) o ≡ Some j
          → IsLed names lives code (has (none n) at) at
      by None q h = absurd cc
      by (Some i) q h =
          let same : with_op (folded acts code from) i ≡ j = cc in
          let lt = get_below code.ins from i q in
          named from which i q (lives_is from lt ∙ l)
          (ap (λ (ts : List ℕ). slice_get ts which)
          (names_are from i lt l ∙ ap (λ (x : Ins). targets x.op) same) ∙ t)
  back at (entry k from h e lt l c x) =
      enters k from h e (subst (λ m. from < m) (sym long) lt) (lives_is from lt ∙ l) c x

  aimed_tells : (at : ℕ) → at < n
      → Tells (has still at) (IsStillAimedAt pass.Const acts code at)
  aimed_tells at lt =
      by (led_tells names lives code
      (subst (λ m. AllByRecursion (IsPlaced m) code.handlers) (sym long) sound.handlers)
      (none n) at (subst (λ m. at < m) (sym (none_long n)) lt))
    where
      by : Tells (has still at) (IsLed names lives code (has (none n) at) at)
          → Tells (has still at) (IsStillAimedAt pass.Const acts code at)
      by (inl q) = inl (q.0, there at q.1)
      by (inr q) = inr (q.0, λ x. q.1 (back at x))

  past_end : (at : ℕ) → end ≤ at → IsPastLast pass.Const acts code at
  past_end at le k far lt = is_false (not (goes acts code k)) (λ s.
      let above = end_above 0 0 lives (omega arith) k
      (subst (λ m. k < m) (sym long) lt) (lives_is k lt ∙ s) in
      omega (arith, above, le, far))

  end_past : (at : ℕ) → IsPastLast pass.Const acts code at → end ≤ at
  end_past at past = by (last_of 0 0 lives)
    where
      by : (end ≡ 0) ⊎ ((j : ℕ) × (j < length lives) × (lives_in lives j ≡ true)
          × (end ≡ 0 + j + 1)) → end ≤ at
      by (inl q) = omega (arith, q)
      by (inr q) = near (leb_tells at q.0)
        where
          near : ((nat_le at q.0 ≡ true) × (at ≤ q.0)) ⊎ ((nat_le at q.0 ≡ false) × (q.0 < at))
              → end ≤ at
          near (inl p) =
              let lt = subst (λ m. q.0 < m) long q.1 in
              let no : true ≡ false = sym q.2 ∙ lives_is q.0 lt ∙ past q.0 p.1 lt in absurd cc
          near (inr p) = omega (arith, p.1, q.3)

  -- ---- what a fold takes along

  abbrev IsLost : ℕ → Type 0
  IsLost at = IsStillAimedAt pass.Const acts code at × IsPastLast pass.Const acts code at

  lost_there : (at : ℕ) → at < n → is_lost end still at ≡ true → IsLost at
  lost_there at lt e =
      let x = both _ _ e in
      (told _ _ (aimed_tells at lt) x.1, past_end at (is_le end at x.0))

  there_lost : (at : ℕ) → at < n → IsLost at → is_lost end still at ≡ true
  there_lost at lt h =
      and_both _ _ (le_is end at (end_past at h.1)) (of (aimed_tells at lt) h.0)
    where
      of : {b : Bool} {P : Type 0} → Tells b P → P → b ≡ true
      of (inl q) p = q.0
      of (inr q) p = absurd (q.1 p)

  module _ (place to : ℕ) (i : Ins) (e : slice_get code.ins place ≡ Some i)
      (one : is_fold (operands i.op) ≡ true → 1 ≤ place)
      (two : is_two (operands i.op) ≡ true → 2 ≤ place) where
    below : place < n
    below = get_below code.ins place i e

    same : operands_at code place ≡ operands i.op
    same = ap count_of e

    abbrev itself : Bool
    itself = to == place + 1 && is_lost end still place

    abbrev first : Bool
    first = is_fold (operands i.op) && is_lost end still (place - 1)

    abbrev second : Bool
    second = is_two (operands i.op) && is_lost end still (place - 2)

    -- none of the indices that it takes along is lost
    keeps : not (itself || (first || second)) ≡ true
        → KeepsLast pass.Const acts code (act.Fold place to)
    keeps k at along gone aimed past =
        let none = no_or itself (first || second) (un_not _ k) in
        let others = no_or first second none.1 in
        by none.0 others.0 others.1 (either _ _ along)
      where
        clash : {b : Bool} {P : Type 0} → b ≡ false → b ≡ true → P
        clash p q = let no : true ≡ false = sym q ∙ p in absurd cc

        by : itself ≡ false → first ≡ false → second ≡ false
            → ((at == place && to == place + 1) ≡ true)
            ⊎ (((at + 1 == place && is_fold (operands_at code place))
            || (at + 1 + 1 == place && is_two (operands_at code place))) ≡ true) → ⊥
        by p q r (inl h) =
            let x = both _ _ h in
            let is : at ≡ place = numbers_same at place x.0 in
            clash p (and_both _ _ x.1 (there_lost place below
            (subst IsLost is (aimed, past))))
        by p q r (inr h) = of q r (either _ _ h)
          where
            of : first ≡ false → second ≡ false
                → ((at + 1 == place && is_fold (operands_at code place)) ≡ true)
                ⊎ ((at + 1 + 1 == place && is_two (operands_at code place)) ≡ true) → ⊥
            of q r (inl h) =
                let x = both _ _ h in
                let is : at + 1 ≡ place = numbers_same (at + 1) place x.0 in
                let back : at ≡ place - 1 = omega (arith, is) in
                clash q (and_both _ _ (ap is_fold (sym same) ∙ x.1) (there_lost (place - 1)
                (omega (arith, below)) (subst IsLost back (aimed, past))))
            of q r (inr h) =
                let x = both _ _ h in
                let is : at + 1 + 1 ≡ place = numbers_same (at + 1 + 1) place x.0 in
                let back : at ≡ place - 2 = omega (arith, is) in
                clash r (and_both _ _ (ap is_two (sym same) ∙ x.1) (there_lost (place - 2)
                (omega (arith, below)) (subst IsLost back (aimed, past))))

    -- an index that is lost isn't taken along
    not_along : KeepsLast pass.Const acts code (act.Fold place to) → (at : ℕ) → at < n
        → takes_along code place to at ≡ true → is_lost end still at ≡ true → ⊥
    not_along k at lt along e =
        let h = lost_there at lt e in k at along (h.1 at (omega arith) lt) h.0 h.1

    kept : KeepsLast pass.Const acts code (act.Fold place to)
        → not (itself || (first || second)) ≡ true
    kept k = is_not _ (or_no itself (first || second) here (or_no first second before_it again))
      where
        here : itself ≡ false
        here = is_false itself (λ h. let x = both _ _ h in
            not_along k place below
            (left_or (place == place && to == place + 1) _
            (and_both _ _ (same_number place) x.0)) x.1)

        before_it : first ≡ false
        before_it = is_false first (λ h. let x = both _ _ h in
            let far = one x.0 in
            let is : place - 1 + 1 ≡ place = omega (arith, far) in
            not_along k (place - 1) (omega (arith, below))
            (right_or (place - 1 == place && to == place + 1) _
            (left_or (place - 1 + 1 == place && is_fold (operands_at code place)) _
            (and_both _ _ (ap (λ m. nat_eq m place) is ∙ same_number place)
            (ap is_fold same ∙ x.0)))) x.1)

        again : second ≡ false
        again = is_false second (λ h. let x = both _ _ h in
            let far = two x.0 in
            let is : place - 2 + 1 + 1 ≡ place = omega (arith, far) in
            not_along k (place - 2) (omega (arith, below))
            (right_or (place - 2 == place && to == place + 1) _
            (right_or (place - 2 + 1 == place && is_fold (operands_at code place)) _
            (and_both _ _ (ap (λ m. nat_eq m place) is ∙ same_number place)
            (ap is_two same ∙ x.0)))) x.1)

    pub keeps_tells : Tells (keeps_last end still (operands i.op) place to)
        (KeepsLast pass.Const acts code (act.Fold place to))
    keeps_tells = tells _ _ keeps kept
