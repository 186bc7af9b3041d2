-- Which act of jumps is the first that isn't legal.
use Rattle.std.proofs.Common.{ℕ, zero, suc, ◌+◌, ◌<◌, ◌≤◌, List, [], ◌∷◌, ◌++◌, Option, Some, None}
use Rattle.std.proofs.Common.{Bool, true, false, ◌≡◌, ◌⊎◌, inl, inr, refl, sym, ap, ◌∙◌, subst}
use Rattle.std.proofs.Common.{arith}
use Rattle.std.specs.Prelude.{is_some, length, nat_eq, nat_le, not, slice_get}
use Rattle.std.specs.Prelude.{◌&&◌, ◌||◌, ◌==◌, if◌then◌else◌}
use Rattle.std.specs.List.{AllByRecursion, list_any}
use Rattle.std.specs.Option.{option_map, option_or, unwrap_or}
use Rattle.std.proofs.lemmas.Bool.Decides.{leb_tells}
use Rattle.class_model.specs.declared.code.Code.{Code}
use Rattle.class_model.specs.declared.code.Ins.{Ins}
use Rattle.code_edit.specs.declared.act.Act.{Act}
use Rattle.code_edit.specs.declared.act.Act.TheVariants as act
use Rattle.code_edit.specs.declared.act.Pass.TheVariants as pass
use Rattle.code_edit.specs.Applied.{in_place}
use Rattle.code_edit.specs.Flow.{targets}
use Rattle.code_edit.specs.Jumps.{FollowsGotos, IsLegalJump, aim, is_skipped, jumped, moved_by}
use Rattle.code_edit.specs.Jumps.{skip_target, skipped, skips, stays}
use Rattle.code_edit.specs.Legal.{IsLegalAt, IsPastLast, IsStillAimedAt, KeepsLast, branch, entry}
use Rattle.code_edit.specs.Legal.{share_place}
use Rattle.code_edit.specs.Rewriting.{map_from, retargeted, with_op}
use Rattle.code_edit.specs.SoundCode.{IsPlaced, IsSound}
use Rattle.edit_premises.proofs.Places.{get_below, map_from_get}
use Rattle.edit_legal.specs.Fault.{IsFault, fault_after}
use Rattle.edit_legal.specs.Movable.{end_from, follows_from, is_skippable, may_jump, skip_fits}
use Rattle.edit_legal.specs.Movable.{skippable, still_aimed, target_at, targets_after}
use Rattle.edit_legal.proofs.Faults.{faults, none_shares, shares_tells}
use Rattle.edit_legal.proofs.Following.{follows_tells}
use Rattle.edit_legal.proofs.LastIndex.{end_above, is_le, last_of, le_is}
use Rattle.edit_tables.proofs.Naming.{IsLed, before, enters, led_tells, named}
use Rattle.edit_tables.proofs.Telling.{Tells, and_both, both, is_false, is_not, numbers_same}
use Rattle.edit_tables.proofs.Telling.{same_number, tells, told, turned, un_not}
use Rattle.edit_tables.specs.declared.aims.Aims.{Aims}
use Rattle.edit_tables.specs.Aimed.{TellsAims, aimed, moved}
use Rattle.edit_tables.specs.Marks.{has, none, with_skips}
use Rattle.edit_tables.specs.Places.{lives_in}
use Rattle.edit_tables.specs.Unskipped.{unskipped}
use Rattle.edit_tables.proofs.Aiming.{aim_is}
use Rattle.edit_tables.proofs.Marking.{has_none, none_long, skips_marked}
use Rattle.edit_tables.proofs.Staying.{from_long, going_long, going_where}

-- ---- after the acts

module _ (acts : List Act) (code : Code) (sound : IsSound code) (aims : Aims)
    (aims_told : TellsAims aims acts) where
  abbrev n : ℕ
  n = length code.ins

  abbrev skip_marks : List Bool
  skip_marks = with_skips acts (none n)

  abbrev lives : List Bool
  lives = unskipped skip_marks code

  abbrev end : ℕ
  end = end_from 0 0 lives

  abbrev names : ℕ → Ins → List ℕ
  names = targets_after aims skip_marks

  aimed_is : (at which to : ℕ) → aimed aims at which to ≡ aim acts at which to
  aimed_is at which to = ap (λ o. unwrap_or o to) (aims_told at which) ∙ aim_is acts at which to

  names_are : (at : ℕ) (i : Ins) → at < n → names at i ≡ targets (jumped acts at i.op)
  names_are at i lt =
      ap (λ b. targets (if b then skipped i.op else retargeted (aimed aims at) i.op))
      (skips_marked acts n at lt)
      ∙ ap (λ (f : ℕ → ℕ → ℕ). targets (if is_skipped acts at then skipped i.op
      else retargeted f i.op)) (λ i which to. aimed_is at which to i)

  ins_after : (at : ℕ) → slice_get (in_place pass.Jumps acts code).ins at
      ≡ option_map (with_op (jumped acts at)) (slice_get code.ins at)
  ins_after at =
      map_from_get (λ k (i : Ins). with_op (jumped acts k) i) 0 code.ins at
      ∙ (let z : 0 + at ≡ at = omega arith in
      ap (λ k. option_map (with_op (jumped acts k)) (slice_get code.ins at)) z)

  there : (at : ℕ) → IsLed names lives code (has (none n) at) at
      → IsStillAimedAt pass.Jumps acts code at
  there at (before e) = let no : true ≡ false = sym e ∙ has_none n at in absurd cc
  there at (named from k i e l s) =
      let lt = get_below code.ins from i e in
      branch from k (with_op (jumped acts from) i) (sym (going_where acts code from) ∙ l)
      (ins_after from ∙ ap (option_map (with_op (jumped acts from))) e)
      (ap (λ (ts : List ℕ). slice_get ts k) (sym (names_are from i lt)) ∙ s)
  there at (enters k from h e lt l c x) =
      entry k from h e (subst (λ m. from < m) (going_long acts code) lt)
      (sym (going_where acts code from) ∙ l) c x

  back : (at : ℕ) → IsStillAimedAt pass.Jumps acts code at
      → IsLed names lives code (has (none n) at) at
  back at (branch from which j l e t) = by (slice_get code.ins from) refl (sym (ins_after from) ∙ e)
    where
      by : (o : Option Ins) → slice_get code.ins from ≡ o
          → option_map (with_op (jumped acts from)) o ≡ Some j
          → IsLed names lives code (has (none n) at) at
      by None q h = absurd cc
      by (Some i) q h =
          let same : with_op (jumped acts from) i ≡ j = cc in
          let lt = get_below code.ins from i q in
          named from which i q (going_where acts code from ∙ l)
          (ap (λ (ts : List ℕ). slice_get ts which)
          (names_are from i lt ∙ ap (λ (x : Ins). targets x.op) same) ∙ t)
  back at (entry k from h e lt l c x) =
      enters k from h e (subst (λ m. from < m) (sym (going_long acts code)) lt)
      (going_where acts code from ∙ l) c x

  aimed_tells : (at : ℕ) → at < n
      → Tells (has (still_aimed aims skip_marks lives code) at)
      (IsStillAimedAt pass.Jumps acts code at)
  aimed_tells at lt =
      by (led_tells names lives code
      (subst (λ m. AllByRecursion (IsPlaced m) code.handlers) (sym (going_long acts code))
      sound.handlers)
      (none n) at (subst (λ m. at < m) (sym (none_long n)) lt))
    where
      by : Tells (has (still_aimed aims skip_marks lives code) at)
          (IsLed names lives code (has (none n) at) at)
          → Tells (has (still_aimed aims skip_marks lives code) at)
          (IsStillAimedAt pass.Jumps acts code at)
      by (inl q) = inl (q.0, there at q.1)
      by (inr q) = inr (q.0, λ x. q.1 (back at x))

  past_end : (at : ℕ) → end ≤ at → IsPastLast pass.Jumps acts code at
  past_end at le k far lt = is_false (stays acts code k) (λ s.
      let above = end_above 0 0 lives (omega arith) k
      (subst (λ m. k < m) (sym (going_long acts code)) lt) (going_where acts code k ∙ s) in
      omega (arith, above, le, far))

  end_past : (at : ℕ) → IsPastLast pass.Jumps acts code at → end ≤ at
  end_past at past = by (last_of 0 0 lives)
    where
      by : (end ≡ 0) ⊎ ((j : ℕ) × (j < length lives) × (lives_in lives j ≡ true)
          × (end ≡ 0 + j + 1)) → end ≤ at
      by (inl q) = omega (arith, q)
      by (inr q) = near (leb_tells at q.0)
        where
          near : ((nat_le at q.0 ≡ true) × (at ≤ q.0)) ⊎ ((nat_le at q.0 ≡ false) × (q.0 < at))
              → end ≤ at
          near (inl p) =
              let gone = past q.0 p.1 (subst (λ m. q.0 < m) (going_long acts code) q.1) in
              let no : true ≡ false = sym q.2 ∙ going_where acts code q.0 ∙ gone in absurd cc
          near (inr p) = omega (arith, p.1, q.3)

  -- ---- skips

  abbrev still : List Bool
  still = still_aimed aims skip_marks lives code

  abbrev Skips : ℕ → Type 0
  Skips at = IsLegalJump acts code (act.Skip at) × KeepsLast pass.Jumps acts code (act.Skip at)

  abbrev lost : ℕ → Bool
  lost at = nat_le end at && has still at

  lost_tells : (at : ℕ) → at < n
      → Tells (not (lost at)) (KeepsLast pass.Jumps acts code (act.Skip at))
  lost_tells at lt =
      tells _ _
      (λ e place d l led past.
      let same = numbers_same place at d in
      let far = end_past at (subst (IsPastLast pass.Jumps acts code) same past) in
      let marked = holds (aimed_tells at lt) (subst (IsStillAimedAt pass.Jumps acts code) same led) in
      let both_are = and_both _ _ (le_is end at far) marked in
      let no : true ≡ false = sym both_are ∙ un_not _ e in cc)
      (λ keeps. is_not _ (is_false _ (λ e.
      let x = both _ _ e in
      let past = past_end at (is_le end at x.0) in
      keeps at (same_number at) (past at (omega arith) lt) (told _ _ (aimed_tells at lt) x.1) past)))
    where
      holds : {b : Bool} {P : Type 0} → Tells b P → P → b ≡ true
      holds (inl q) p = q.0
      holds (inr q) p = absurd (q.1 p)

  fits_tells : (at : ℕ) (i : Ins) → slice_get code.ins at ≡ Some i → (o : Option ℕ)
      → skip_target i.op ≡ o → Tells (skip_fits aims end still at o) (Skips at)
  fits_tells at i e None t = inr (
    refl,
    λ s.
        let one : Some i ≡ Some s.0.0 = sym e ∙ s.0.2 in
        let ins : i ≡ s.0.0 = cc in
        let no : None ≡ Some s.0.1 = sym t ∙ ap (λ (x : Ins). skip_target x.op) ins ∙ s.0.3 in cc,
  )
  fits_tells at i e (Some to) t =
      let keeps = lost_tells at (get_below code.ins at i e) in
      tells _ _
      (λ f. let x = both _ _ f in (
        (i, to, e, t, sym (aimed_is at 0 to) ∙ numbers_same (aimed aims at 0 to) (at + 1) x.0),
        told _ _ keeps x.1,
      ))
      (λ s.
      let one : Some i ≡ Some s.0.0 = sym e ∙ s.0.2 in
      let ins : i ≡ s.0.0 = cc in
      let two : Some to ≡ Some s.0.1 =
      sym t ∙ ap (λ (x : Ins). skip_target x.op) ins ∙ s.0.3 in
      let same : to ≡ s.0.1 = cc in
      and_both _ _
      (ap (λ m. nat_eq m (at + 1)) (aimed_is at 0 to ∙ ap (aim acts at 0) same ∙ s.0.4)
      ∙ same_number (at + 1))
      (holds keeps s.1))
    where
      holds : {b : Bool} {P : Type 0} → Tells b P → P → b ≡ true
      holds (inl q) p = q.0
      holds (inr q) p = absurd (q.1 p)

  has_from : (f : ℕ → Ins → Bool) (k : ℕ) (ins : List Ins) (at : ℕ) (i : Ins)
      → slice_get ins at ≡ Some i → has (map_from f k ins) at ≡ f (k + at) i
  has_from f k [] at i e = absurd cc
  has_from f k (x ∷ ins) zero i e =
      let same : x ≡ i = cc in
      let z : k ≡ k + 0 = omega arith in ap (f k) same ∙ ap (λ m. f m i) z
  has_from f k (x ∷ ins) (suc at) i e =
      let z : suc k + at ≡ k + suc at = omega arith in
      has_from f (suc k) ins at i e ∙ ap (λ m. f m i) z

  no_from : (f : ℕ → Ins → Bool) (k : ℕ) (ins : List Ins) (at : ℕ) → slice_get ins at ≡ None
      → has (map_from f k ins) at ≡ false
  no_from f k [] at e = refl
  no_from f k (x ∷ ins) zero e = absurd cc
  no_from f k (x ∷ ins) (suc at) e = no_from f (suc k) ins at e

  abbrev skip_list : List Bool
  skip_list = skippable aims acts code

  abbrev test : ℕ → Ins → Bool
  test = is_skippable aims end still

  list_long : length skip_list ≡ n
  list_long = from_long test 0 code.ins

  skip_tells : (at : ℕ) → Tells (has skip_list at) (Skips at)
  skip_tells at = by (slice_get code.ins at) refl
    where
      by : (o : Option Ins) → slice_get code.ins at ≡ o → Tells (has skip_list at) (Skips at)
      by None e = inr (
        no_from test 0 code.ins at e,
        λ s.
            let no : None ≡ Some s.0.0 = sym e ∙ s.0.2 in cc,
      )
      by (Some i) e = fits (fits_tells at i e (skip_target i.op) refl)
        where
          same : has skip_list at ≡ test at i
          same = has_from test 0 code.ins at i e
              ∙ (let z : 0 + at ≡ at = omega arith in ap (λ m. test m i) z)

          fits : Tells (test at i) (Skips at) → Tells (has skip_list at) (Skips at)
          fits (inl q) = inl (same ∙ q.0, q.1)
          fits (inr q) = inr (same ∙ q.0, q.1)

  -- ---- aims

  follow_tells : (at which to : ℕ)
      → Tells (follows_from code (target_at (slice_get code.ins at) which) to)
      (IsLegalJump acts code (act.Aim at which to))
  follow_tells at which to = by (slice_get code.ins at) refl
    where
      by : (o : Option Ins) → slice_get code.ins at ≡ o
          → Tells (follows_from code (target_at o which) to)
          (IsLegalJump acts code (act.Aim at which to))
      by None e = inr (refl, λ l. let no : None ≡ Some l.0 = sym e ∙ l.2 in cc)
      by (Some i) e = from (slice_get (targets i.op) which) refl
        where
          from : (o : Option ℕ) → slice_get (targets i.op) which ≡ o
              → Tells (follows_from code o to) (IsLegalJump acts code (act.Aim at which to))
          from None t = inr (
            refl,
            λ l.
                let one : Some i ≡ Some l.0 = sym e ∙ l.2 in
                let ins : i ≡ l.0 = cc in
                let no : None ≡ Some l.1 =
                sym t ∙ ap (λ (x : Ins). slice_get (targets x.op) which) ins ∙ l.3 in cc,
          )
          from (Some old) t = along (follows_tells code to old)
            where
              along : Tells (follows_from code (Some old) to) (FollowsGotos code old to)
                  → Tells (follows_from code (Some old) to)
                  (IsLegalJump acts code (act.Aim at which to))
              along (inl q) = inl (q.0, (i, old, e, t, q.1))
              along (inr q) = inr (
                q.0,
                λ l.
                    let one : Some i ≡ Some l.0 = sym e ∙ l.2 in
                    let ins : i ≡ l.0 = cc in
                    let two : Some old ≡ Some l.1 =
                    sym t ∙ ap (λ (x : Ins). slice_get (targets x.op) which) ins ∙ l.3 in
                    let same : old ≡ l.1 = cc in
                    q.1 (subst (λ m. FollowsGotos code m to) (sym same) l.4),
              )

  moved_one : (at which to : ℕ) (b : Act)
      → is_some (moved_by at which b) ≡ share_place b (act.Aim at which to)
  moved_one at which to (act.Aim place number other) =
      by (at == place && which == number)
      ∙ (λ i. turned at place i && turned which number i)
    where
      by : (c : Bool) → is_some (if c then Some other else None) ≡ c
      by true = refl
      by false = refl
  moved_one at which to b = refl

  some_or : (a b : Option ℕ) → is_some (option_or a b) ≡ (is_some a || is_some b)
  some_or None b = refl
  some_or (Some x) b = refl

  moved_any : (at which to : ℕ) (earlier : List Act)
      → is_some (moved earlier at which)
      ≡ list_any (λ (b : Act). share_place b (act.Aim at which to)) earlier
  moved_any at which to [] = refl
  moved_any at which to (b ∷ earlier) =
      some_or (moved_by at which b) (moved earlier at which)
      ∙ (λ i. moved_one at which to b i || moved_any at which to earlier i)

  skip_one : (at : ℕ) (b : Act) → share_place b (act.Skip at) ≡ skips at b
  skip_one at (act.Skip place) = turned place at
  skip_one at b = refl

  skip_any : (at : ℕ) (earlier : List Act)
      → list_any (λ (b : Act). share_place b (act.Skip at)) earlier
      ≡ list_any (skips at) earlier
  skip_any at [] = refl
  skip_any at (b ∷ earlier) = λ i. skip_one at b i || skip_any at earlier i

  -- ---- one act

  holds : {b : Bool} {P : Type 0} → Tells b P → P → b ≡ true
  holds (inl q) p = q.0
  holds (inr q) p = absurd (q.1 p)

  abbrev may : List Act → Act → Bool
  may = may_jump code skip_list

  below_list : (at : ℕ) → has skip_list at ≡ true → at < n
  below_list at e = let s = told _ _ (skip_tells at) e in get_below code.ins at s.0.0 s.0.2

  free_is : (earlier : List Act) (at : ℕ) → at < n
      → not (has (with_skips earlier (none (length skip_list))) at)
      ≡ none_shares earlier (act.Skip at)
  free_is earlier at lt =
      ap (λ m. not (has (with_skips earlier (none m)) at)) list_long
      ∙ ap not (skips_marked earlier n at lt ∙ sym (skip_any at earlier))

  one_tells : (earlier rest : List Act) (a : Act) → acts ≡ earlier ++ a ∷ rest
      → Tells (may earlier a) (IsLegalAt pass.Jumps acts code (length earlier) a)
  one_tells earlier rest (act.Aim at which to) is =
      tells _ _
      (λ e. let x = both _ _ e in (
        told _ _ (follow_tells at which to) x.0,
        told _ _ (shares_tells acts earlier rest (act.Aim at which to) is)
            (ap not (sym (moved_any at which to earlier)) ∙ x.1),
        λ place d l led past. let no : false ≡ true = d in cc,
      ))
      (λ legal. and_both _ _ (holds (follow_tells at which to) legal.0)
      (ap not (moved_any at which to earlier)
      ∙ holds (shares_tells acts earlier rest (act.Aim at which to) is) legal.1))
  one_tells earlier rest (act.Skip at) is =
      tells _ _
      (λ e. let x = both _ _ e in
      let s = told _ _ (skip_tells at) x.0 in
      let lt = below_list at x.0 in (
        s.0,
        told _ _ (shares_tells acts earlier rest (act.Skip at) is)
            (sym (free_is earlier at lt) ∙ x.1),
        s.1,
      ))
      (λ legal.
      let may_be = holds (skip_tells at) (legal.0, legal.2) in
      and_both _ _ may_be
      (free_is earlier at (below_list at may_be)
      ∙ holds (shares_tells acts earlier rest (act.Skip at) is) legal.1))
  one_tells earlier rest (act.Drop from to) is = inr (refl, λ legal. absurd legal.0)
  one_tells earlier rest (act.Fact from to slot value) is =
      inr (refl, λ legal. absurd legal.0)
  one_tells earlier rest (act.Fold at to) is = inr (refl, λ legal. absurd legal.0)
  one_tells earlier rest (act.Cut at) is = inr (refl, λ legal. absurd legal.0)

pub jump_fault_is : (acts : List Act) (code same : Code) (list : List Bool) (aims : Aims)
    (fault : Option ℕ) → IsSound code → same ≡ code → TellsAims aims acts
    → list ≡ skippable aims acts code → fault ≡ fault_after (may_jump same list) 0 [] acts
    → IsFault pass.Jumps acts code fault
jump_fault_is acts code same list aims fault sound s t e f =
    subst (IsFault pass.Jumps acts code)
    (sym (f ∙ (λ i. fault_after (may_jump (s i) (e i)) 0 [] acts)))
    (faults pass.Jumps acts code (may_jump code (skippable aims acts code))
    (λ earlier rest a is prior. one_tells acts code sound aims t earlier rest a is))
