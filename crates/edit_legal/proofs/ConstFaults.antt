-- Which act of const is the first that isn't legal.
use Rattle.std.proofs.Common.{ℕ, zero, suc, ◌+◌, ◌-◌, ◌<◌, ◌≤◌, ℤ, List, [], ◌∷◌, ◌++◌, Option, Some}
use Rattle.std.proofs.Common.{None, Bool, true, false, ◌≡◌, ◌⊎◌, inl, inr, refl, sym, ap, ◌∙◌, subst}
use Rattle.std.proofs.Common.{arith, length-append}
use Rattle.std.specs.Prelude.{length, nat_le, not, slice_get, ◌&&◌, ◌||◌, ◌==◌}
use Rattle.std.specs.Prelude.{if◌then◌else◌}
use Rattle.std.specs.List.{list_any}
use Rattle.std.proofs.lemmas.Bool.Decides.{leb_tells}
use Rattle.class_model.specs.declared.code.Code.{Code}
use Rattle.class_model.specs.declared.code.Ins.{Ins}
use Rattle.code_edit.specs.declared.act.Act.{Act}
use Rattle.code_edit.specs.declared.act.Act.TheVariants as act
use Rattle.code_edit.specs.declared.act.Pass.TheVariants as pass
use Rattle.code_edit.specs.Constants.{IsLegalConst, IsPlace}
use Rattle.code_edit.specs.Legal.{IsLegalAt, share_place}
use Rattle.code_edit.specs.SoundCode.{IsSound}
use Rattle.const_tables.specs.declared.facts.Stretch.{Stretch}
use Rattle.const_tables.specs.FirstFacts.{AreFirst, first_from, names}
use Rattle.const_tables.specs.Predecessors.{predecessors}
use Rattle.const_tables.proofs.FirstActs.{first_there, there_first}
use Rattle.edit_premises.proofs.Places.{get_below}
use Rattle.jv_base.proofs.Lists.{got_left}
use Rattle.edit_legal.specs.ConstTables.{IsConstants}
use Rattle.edit_legal.specs.declared.constants.Constants.{Constants}
use Rattle.edit_legal.specs.Decidable.{all_folded, may_decide, may_fold, may_stand_on, up_to}
use Rattle.edit_legal.specs.Decidable.{with_folded}
use Rattle.edit_legal.specs.Fault.{IsFault, fault_after}
use Rattle.edit_legal.proofs.FactsRight.{range_tells}
use Rattle.edit_legal.proofs.Faults.{Prior, faults, got_next, none_shares, shares_tells}
use Rattle.edit_legal.proofs.FoldsLast.{end, keeps_tells, still}
use Rattle.edit_legal.proofs.FoldsRight.{one_behind, right_tells, two_behind}
use Rattle.edit_legal.proofs.LastIndex.{is_le, le_is}
use Rattle.edit_tables.proofs.Telling.{Tells, and_both, both, is_false}
use Rattle.edit_tables.proofs.Telling.{same_number, tells, told, turned}
use Rattle.edit_tables.proofs.Marking.{has_none, has_put, none_long, or_false, or_later, put_long}
use Rattle.edit_tables.specs.Marks.{has, none, target_marks, with_entries}

holds : {b : Bool} {P : Type 0} → Tells b P → P → b ≡ true
holds (inl q) p = q.0
holds (inr q) p = absurd (q.1 p)

-- ---- folds that were noted

fold_long : (a : Act) (ms : List Bool) → length (with_folded a ms) ≡ length ms
fold_long (act.Fold at to) ms = put_long at ms
fold_long a ms = refl

has_fold : (a : Act) (ms : List Bool) (at to : ℕ) → at < length ms
    → has (with_folded a ms) at ≡ (has ms at || share_place a (act.Fold at to))
has_fold (act.Fold x t) ms at to lt =
    has_put x ms at lt ∙ ap (λ b. has ms at || b) (turned at x)
has_fold (act.Drop x t) ms at to lt = or_false (has ms at)
has_fold (act.Fact x t s v) ms at to lt = or_false (has ms at)
has_fold (act.Cut x) ms at to lt = or_false (has ms at)
has_fold (act.Aim x w t) ms at to lt = or_false (has ms at)
has_fold (act.Skip x) ms at to lt = or_false (has ms at)

has_folds : (before : List Act) (ms : List Bool) (at to : ℕ) → at < length ms
    → has (all_folded before ms) at
    ≡ (has ms at || list_any (λ (b : Act). share_place b (act.Fold at to)) before)
has_folds [] ms at to lt = or_false (has ms at)
has_folds (a ∷ before) ms at to lt =
    has_folds before (with_folded a ms) at to (subst (λ n. at < n) (sym (fold_long a ms)) lt)
    ∙ ap (λ b. b || list_any (λ (c : Act). share_place c (act.Fold at to)) before)
    (has_fold a ms at to lt)
    ∙ or_later (has ms at) (share_place a (act.Fold at to))
    (list_any (λ (c : Act). share_place c (act.Fold at to)) before)

module _ (acts : List Act) (code : Code) (sound : IsSound code) (facts : List Stretch)
    (first : AreFirst 0 acts facts) where
  abbrev n : ℕ
  n = length code.ins

  abbrev marks : List Bool
  marks = target_marks code

  abbrev entries : List Bool
  entries = with_entries code.handlers (none n)

  abbrev may : List Act → Act → Bool
  may = may_decide code acts facts marks (predecessors code) entries (end acts code sound)
      (still acts code sound)

  -- ---- acts before

  long : (before rest : List Act) (a : Act) → acts ≡ before ++ a ∷ rest
      → up_to (length before) (length acts) ≡ length before
  long before rest a is = by (leb_tells (suc (length before)) (length acts))
    where
      more : length acts ≡ length before + suc (length rest)
      more = ap (λ (xs : List Act). length xs) is ∙ length-append before (a ∷ rest)

      by : ((nat_le (suc (length before)) (length acts) ≡ true)
          × (suc (length before) ≤ length acts))
          ⊎ ((nat_le (suc (length before)) (length acts) ≡ false)
          × (length acts < suc (length before)))
          → up_to (length before) (length acts) ≡ length before
      by (inl q) = ap (λ b. if b then length before else length acts) q.0
      by (inr q) = absurd (omega (arith, q.1, more))

  here : (before rest : List Act) (a : Act) → acts ≡ before ++ a ∷ rest
      → slice_get acts (length before) ≡ Some a
  here before rest a is =
      ap (λ (xs : List Act). slice_get xs (length before)) is ∙ got_next before rest a

  -- ---- facts

  module _ (from to slot : ℕ) (value : ℤ) where
    abbrev fact : Act
    fact = act.Fact from to slot value

    -- an act that names an index of the range shares a place
    names_share : (b : Act) (at : ℕ) → names slot at b ≡ true → from ≤ at → at ≤ to
        → share_place b fact ≡ true
    names_share (act.Fact f t s v) at e low high =
        let x = both _ _ e in
        let y = both _ _ x.1 in
        let first_le = is_le f at y.0 in
        let last_le = is_le at t y.1 in
        and_both _ _ (turned s slot ∙ x.0)
        (and_both _ _ (le_is f to (omega (arith, first_le, high)))
        (le_is from t (omega (arith, low, last_le))))
    names_share (act.Drop f t) at e low high = absurd cc
    names_share (act.Fold f t) at e low high = absurd cc
    names_share (act.Cut f) at e low high = absurd cc
    names_share (act.Aim f w t) at e low high = absurd cc
    names_share (act.Skip f) at e low high = absurd cc

    -- and one that shares a place names such an index, where its own range isn't empty
    share_names : (b : Act) (j : ℕ) → IsLegalAt pass.Const acts code j b → from ≤ to
        → share_place b fact ≡ true
        → (at : ℕ) × (from ≤ at) × (at ≤ to) × (names slot at b ≡ true)
    share_names (act.Fact f t s v) j legal le e =
        let x = both _ _ e in
        let y = both _ _ x.1 in
        let one = is_le f to y.0 in
        let other = is_le from t y.1 in
        let own = legal.0.0 in
        by one other own (leb_tells from f) (turned slot s ∙ x.0)
      where
        by : f ≤ to → from ≤ t → f ≤ t
            → ((nat_le from f ≡ true) × (from ≤ f)) ⊎ ((nat_le from f ≡ false) × (f < from))
            → (slot == s) ≡ true
            → (at : ℕ) × (from ≤ at) × (at ≤ to) × (names slot at (act.Fact f t s v) ≡ true)
        by one other own (inl q) same = (
          f,
          q.1,
          one,
          and_both _ _ same (and_both _ _ (le_is f f (omega arith)) (le_is f t own)),
        )
        by one other own (inr q) same = (
          from,
          omega arith,
          le,
          and_both _ _ same
              (and_both _ _ (le_is f from (let lt = q.1 in omega (arith, lt))) (le_is from t other)),
        )
    share_names (act.Drop f t) j legal le e = absurd cc
    share_names (act.Fold f t) j legal le e = absurd cc
    share_names (act.Cut f) j legal le e = absurd cc
    share_names (act.Aim f w t) j legal le e = absurd cc
    share_names (act.Skip f) j legal le e = absurd cc

    own_names : (at : ℕ) → from ≤ at → at ≤ to → names slot at fact ≡ true
    own_names at low high =
        and_both _ _ (same_number slot) (and_both _ _ (le_is from at low) (le_is at to high))

    abbrev Stands : ℕ → Type 0
    Stands k = (from ≤ to) × ((at : ℕ) → from ≤ at → at ≤ to
        → IsPlace acts code slot at value × (first_from 0 acts slot at ≡ Some k))

    abbrev NoShare : ℕ → Type 0
    NoShare k = (j : ℕ) (b : Act) → j < k → slice_get acts j ≡ Some b → share_place b fact ≡ false

    alone : (k : ℕ) → ((j : ℕ) (b : Act) → j < k → slice_get acts j ≡ Some b
        → IsLegalAt pass.Const acts code j b) → Stands k → NoShare k
    alone k prior h j b lt e = is_false (share_place b fact) (λ s.
        let x = share_names b j (prior j b lt e) h.0 s in
        let r = first_there slot x.0 0 k acts (h.1 x.0 x.1 x.2).1 in
        let same : k ≡ r.0 = omega (arith, r.2) in
        let no : true ≡ false =
        sym x.3 ∙ r.3.2 j b (omega (arith, lt, same)) e in cc)

    is_first : (k : ℕ) → slice_get acts k ≡ Some fact → NoShare k → (at : ℕ) → from ≤ at → at ≤ to
        → first_from 0 acts slot at ≡ Some k
    is_first k e free at low high =
        let z : 0 + k ≡ k = omega arith in
        there_first slot at 0 acts k fact (
          e,
          own_names at low high,
          λ j b lt f. is_false (names slot at b) (λ q.
              let no : true ≡ false = sym (names_share b at q low high) ∙ free j b lt f in cc),
        ) ∙ ap Some z

    abbrev stands_on : ℕ → Bool
    stands_on m =
        nat_le from to
        && may_stand_on code acts facts marks (predecessors code) entries m slot value from
        (to + 1 - from)

    fact_tells : (before rest : List Act) → acts ≡ before ++ fact ∷ rest
        → ((j : ℕ) (b : Act) → j < length before → slice_get acts j ≡ Some b
        → IsLegalAt pass.Const acts code j b)
        → Tells (may before fact) (IsLegalAt pass.Const acts code (length before) fact)
    fact_tells before rest is prior =
        subst (λ m. Tells (stands_on m) (IsLegalAt pass.Const acts code (length before) fact))
        (sym (long before rest fact is))
        (tells _ _
        (λ e. let h = told _ _ (range_tells acts code facts first slot value (length before) from to) e in (
          (h.0, λ at low high. (h.1 at low high).0),
          alone (length before) prior h,
          λ at d l led past. let no : false ≡ true = d in cc,
        ))
        (λ legal. holds (range_tells acts code facts first slot value (length before) from to) (
          legal.0.0,
          λ at low high. (
            legal.0.1 at low high,
            is_first (length before) (here before rest fact is) legal.1 at low high,
          ),
        )))

  -- ---- folds

  module _ (at to : ℕ) where
    abbrev fold : Act
    fold = act.Fold at to

    free_is : (before : List Act) → at < n
        → not (has (all_folded before (none n)) at) ≡ none_shares before fold
    free_is before lt =
        ap not (has_folds before (none n) at to (subst (λ m. at < m) (sym (none_long n)) lt)
        ∙ ap (λ b. b || list_any (λ (b : Act). share_place b fold) before) (has_none n at))

    abbrev may_at : List Act → Option Ins → Bool
    may_at before i =
        may_fold code acts facts marks (end acts code sound) (still acts code sound) at to i
        && not (has (all_folded before (none n)) at)

    fold_tells : (before rest : List Act) → acts ≡ before ++ fold ∷ rest
        → Tells (may before fold) (IsLegalAt pass.Const acts code (length before) fold)
    fold_tells before rest is = by (slice_get code.ins at) refl
      where
        by : (o : Option Ins) → slice_get code.ins at ≡ o
            → Tells (may_at before o) (IsLegalAt pass.Const acts code (length before) fold)
        by None e = inr (refl, λ legal. nowhere legal.0)
          where
            nowhere : IsLegalConst acts code fold → ⊥
            nowhere (inl f) = let no : None ≡ Some f.ins = sym e ∙ f.here in cc
            nowhere (inr f) = let no : None ≡ Some f.ins = sym e ∙ f.here in cc
        by (Some i) e =
            let lt = get_below code.ins at i e in
            tells _ _
            (λ h. let x = both _ _ h in
            let y = both _ _ x.0 in
            let right = told _ _ (right_tells code acts facts first at to i e) y.0 in (
              right,
              told _ _ (shares_tells acts before rest fold is) (sym (free_is before lt) ∙ x.1),
              told _ _ (keeps_tells acts code sound at to i e
                  (one_behind code acts facts first at to i e right)
                  (two_behind code acts facts first at to i e right)) y.1,
            ))
            (λ legal. let right = legal.0 in
            and_both _ _
            (and_both _ _ (holds (right_tells code acts facts first at to i e) right)
            (holds (keeps_tells acts code sound at to i e
            (one_behind code acts facts first at to i e right)
            (two_behind code acts facts first at to i e right)) legal.2))
            (free_is before lt ∙ holds (shares_tells acts before rest fold is) legal.1))

  -- ---- one act

  one_tells : (before rest : List Act) (a : Act) → acts ≡ before ++ a ∷ rest
      → Prior pass.Const acts code before
      → Tells (may before a) (IsLegalAt pass.Const acts code (length before) a)
  one_tells before rest (act.Fact from to slot value) is prior =
      fact_tells from to slot value before rest is
      (λ j b lt e. prior j b (sym (got_left before (act.Fact from to slot value ∷ rest) j lt)
      ∙ ap (λ (xs : List Act). slice_get xs j) (sym is) ∙ e))
  one_tells before rest (act.Fold at to) is prior = fold_tells at to before rest is
  one_tells before rest (act.Drop from to) is prior = inr (refl, λ legal. absurd legal.0)
  one_tells before rest (act.Cut at) is prior = inr (refl, λ legal. absurd legal.0)
  one_tells before rest (act.Aim at which to) is prior = inr (refl, λ legal. absurd legal.0)
  one_tells before rest (act.Skip at) is prior = inr (refl, λ legal. absurd legal.0)

pub const_fault_is : (acts : List Act) (code : Code) (rules : Constants) (fault : Option ℕ)
    → IsSound code → IsConstants acts code rules
    → fault
    ≡ fault_after (may_decide rules.known.code.now rules.known.acts.now rules.known.facts
    rules.known.targets.items rules.predecessors.items rules.entries.items rules.end
    rules.aimed.items) 0 [] acts
    → IsFault pass.Const acts code fault
const_fault_is acts code rules fault sound is f =
    subst (IsFault pass.Const acts code)
    (sym (f ∙ (λ i. fault_after (may_decide (is.tells.same_code i) (is.tells.same_acts i)
    rules.known.facts (is.tells.marks i) (is.lists i) (is.begin i) (is.last i)
    (is.still i)) 0 [] acts)))
    (faults pass.Const acts code (may acts code sound rules.known.facts is.tells.first)
    (λ before rest a e prior.
    one_tells acts code sound rules.known.facts is.tells.first before rest a e prior))

-- of a sound code and stretches that tell the acts there always is such a fault, or none
pub const_fault_some : (acts : List Act) (code : Code) (facts : List Stretch) → IsSound code
    → AreFirst 0 acts facts → (fault : Option ℕ) × IsFault pass.Const acts code fault
const_fault_some acts code facts sound first = (
  fault_after (may acts code sound facts first) 0 [] acts,
  faults pass.Const acts code (may acts code sound facts first)
      (λ before rest a e prior. one_tells acts code sound facts first before rest a e prior),
)

-- of rules that were made just now no act is noted
pub none_noted : (acts : List Act) (code : Code) (rules : Constants) → IsConstants acts code rules
    → (rules.count ≡ up_to (length {A = Act} []) (length rules.known.acts.now))
    × (rules.folded.items ≡ all_folded [] (none (length rules.known.code.now.ins)))
none_noted acts code rules is = (
  is.none_noted ∙ zero_is (length rules.known.acts.now),
  is.unmarked ∙ ap (λ (c : Code). none (length c.ins)) (sym is.tells.same_code),
)
  where
    zero_is : (m : ℕ) → 0 ≡ up_to 0 m
    zero_is zero = refl
    zero_is (suc m) = by (leb_tells 1 (suc m))
      where
        by : ((nat_le 1 (suc m) ≡ true) × (1 ≤ suc m)) ⊎ ((nat_le 1 (suc m) ≡ false) × (suc m < 1))
            → 0 ≡ up_to 0 (suc m)
        by (inl q) = ap (λ b. if b then 0 else suc m) (sym q.0)
        by (inr q) = absurd (let lt = q.1 in omega (arith, lt))
