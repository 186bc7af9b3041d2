-- Whether a fact may stand at an index.
use Rattle.std.proofs.Common.{ℕ, zero, suc, ◌+◌, ◌-◌, ◌<◌, ◌≤◌, ℤ, List, [], ◌∷◌, Option, Some, None}
use Rattle.std.proofs.Common.{Bool, true, false, IsTrue, ◌≡◌, ◌≢◌, ◌⊎◌, inl, inr, refl, sym, ap, ◌∙◌}
use Rattle.std.proofs.Common.{subst, arith}
use Rattle.std.specs.Prelude.{length, nat_eq, nat_le, not, slice_get, ◌&&◌, ◌||◌, ◌==◌}
use Rattle.std.specs.Prelude.{if◌then◌else◌}
use Rattle.std.specs.Int.{w32, int_wrapping_add}
use Rattle.std.specs.List.{All, Contains, list_any}
use Rattle.std.specs.Cmp.{signed_Decides}
use Rattle.std.proofs.lemmas.Bool.Decides.{eqb_tells, leb_tells}
use Rattle.class_model.specs.declared.code.Code.{Code}
use Rattle.class_model.specs.declared.code.Handler.{Handler}
use Rattle.code_edit.specs.declared.act.Act.{Act}
use Rattle.code_edit.specs.declared.change.Change.{Change}
use Rattle.code_edit.specs.declared.change.Change.TheVariants.{Keeps, Becomes, Adds, Clobbers}
use Rattle.code_edit.specs.Constants.{IsPlace, fact_at, facts_of}
use Rattle.code_edit.specs.Facts.{Yields, change_at, change_by, int_pushed_by, is_int, pushed_before}
use Rattle.const_tables.specs.declared.facts.Stretch.{Stretch}
use Rattle.const_tables.specs.FirstFacts.{AreFirst, first_from}
use Rattle.const_tables.specs.Predecessors.{predecessors}
use Rattle.const_tables.proofs.FirstActs.{ints_tell}
use Rattle.const_tables.proofs.Linking.{all_tell}
use Rattle.edit_legal.specs.Decidable.{change_in, is_number, is_sum, may_stand, may_stand_on}
use Rattle.edit_legal.specs.Decidable.{pushed_in, supports, yields}
use Rattle.edit_tables.proofs.Marking.{entries_marked, targets_marked}
use Rattle.edit_tables.proofs.Telling.{Tells, and_both, both, is_false, is_not, numbers_same}
use Rattle.edit_tables.proofs.Telling.{same_number, tells, told, un_not}
use Rattle.edit_tables.specs.Marks.{none, target_marks, with_entries}
use Rattle.edit_legal.proofs.LastIndex.{is_le, le_is}
use Rattle.jv_base.proofs.Lists.{any_at, any_where}
use Rattle.std.proofs.lemmas.Option.{get_or_from_slice_get, slice_get_within}
use Rattle.std.proofs.lemmas.List.Elements.{All-contains, All-contains_itself, All-weaker}

-- ---- sums

sum_there : (o : Option ℤ) (by value : ℤ) → is_sum o by value ≡ true
    → (d : ℤ) × IsTrue (is_int o d) × (value ≡ int_wrapping_add w32 d by)
sum_there (Some i) by value e =
    (i, (signed_Decides i i).1 refl, (signed_Decides value (int_wrapping_add w32 i by)).0 e)
sum_there None by value e = absurd cc

there_sum : (o : Option ℤ) (by value d : ℤ) → IsTrue (is_int o d)
    → value ≡ int_wrapping_add w32 d by → is_sum o by value ≡ true
there_sum (Some i) by value d h e =
    (signed_Decides value (int_wrapping_add w32 i by)).1
    (e ∙ ap (λ n. int_wrapping_add w32 n by) (sym ((signed_Decides i d).0 h)))
there_sum None by value d h e = absurd cc

-- ---- what a fact asks

module _ (acts : List Act) (code : Code) (facts : List Stretch) (first : AreFirst 0 acts facts)
  where
    abbrev n : ℕ
    n = length code.ins

    abbrev marks : List Bool
    marks = target_marks code

    abbrev entries : List Bool
    entries = with_entries code.handlers (none n)

    abbrev lists : List (List ℕ)
    lists = predecessors code

    -- what an instruction does, told by the marks
    changes_same : (slot p : ℕ) → p < n → change_in code marks slot p ≡ change_at code slot p
    changes_same slot p lt = ap (λ o. change_by (slice_get code.ins p) o slot) pushed_same
      where
        pushed_same : pushed_in code marks p ≡ pushed_before code p
        pushed_same =
            ap (λ b. if (p == 0) || b then None else int_pushed_by (slice_get code.ins (p - 1)))
            (targets_marked code p lt)

    module _ (slot : ℕ) (value : ℤ) where
      abbrev known : ℕ → Option ℤ
      known p = fact_at acts slot p

      yields_there : (p : ℕ) (c : Change) → yields (known p) value c ≡ true
          → Yields (facts_of acts slot) p value c
      yields_there p Keeps e = e
      yields_there p (Becomes v) e = (signed_Decides value v).0 e
      yields_there p (Adds by) e = sum_there (known p) by value e
      yields_there p Clobbers e = absurd cc

      there_yields : (p : ℕ) (c : Change) → Yields (facts_of acts slot) p value c
          → yields (known p) value c ≡ true
      there_yields p Keeps h = h
      there_yields p (Becomes v) h = (signed_Decides value v).1 h
      there_yields p (Adds by) h = there_sum (known p) by value h.0 h.1 h.2
      there_yields p Clobbers h = absurd h

      supports_is : (p : ℕ) → p < n → supports code acts facts marks slot value p
          ≡ yields (known p) value (change_at code slot p)
      supports_is p lt =
          (λ i. yields (ints_tell slot p acts facts first i) value (changes_same slot p lt i))

      -- ---- one index

      abbrev Stands : ℕ → ℕ → Type 0
      Stands k at = IsPlace acts code slot at value × (first_from 0 acts slot at ≡ Some k)

      no_entry : (at : ℕ) → list_any (λ (h : Handler). nat_eq at h.entry) code.handlers ≡ false
          → All (λ (h : Handler). h.entry ≢ at) code.handlers
      no_entry at e =
          All-weaker (Contains code.handlers) (λ (h : Handler). h.entry ≢ at)
          (λ h c same. let there = contained code.handlers h c in
          let no : true ≡ false =
          sym (any_at (λ (x : Handler). nat_eq at x.entry) code.handlers there.0 h there.1
          (ap (nat_eq at) same ∙ same_number at)) ∙ e in cc) code.handlers
          (All-contains_itself code.handlers)
        where
          contained : (hs : List Handler) (h : Handler) → Contains hs h
              → (k : ℕ) × (slice_get hs k ≡ Some h)
          contained [] h c = absurd (let lt : c.0 < 0 = c.1 in omega (arith, lt))
          contained (x ∷ hs) h (zero, lt, e) = (0, ap Some e)
          contained (x ∷ hs) h (suc k, lt, e) =
              let r = contained hs h (k, omega (arith, lt), e) in (suc r.0, r.1)

      entry_none : (at : ℕ) → All (λ (h : Handler). h.entry ≢ at) code.handlers
          → list_any (λ (h : Handler). nat_eq at h.entry) code.handlers ≡ false
      entry_none at h = is_false _ (λ e.
          let x = any_where (λ (y : Handler). nat_eq at y.entry) code.handlers e in
          let has_it : Contains code.handlers x.1 = (
            x.0,
            slice_get_within code.handlers x.0 x.1 x.2,
            get_or_from_slice_get code.handlers x.0 x.1 x.1 x.2,
          ) in
          All-contains (λ (y : Handler). y.entry ≢ at) code.handlers x.1 h has_it
          (sym (numbers_same at x.1.entry x.3)))

      number_there : (o : Option ℕ) (k : ℕ) → is_number o k ≡ true → o ≡ Some k
      number_there None k e = absurd cc
      number_there (Some m) k e = ap Some (numbers_same m k e)

      there_number : (o : Option ℕ) (k : ℕ) → o ≡ Some k → is_number o k ≡ true
      there_number o k e = ap (λ p. is_number p k) e ∙ same_number k

      not_zero : (at : ℕ) → not (at == 0) ≡ true → at ≢ 0
      not_zero at e same =
          let no : true ≡ false = sym (ap (λ m. m == 0) same ∙ same_number 0) ∙ un_not _ e in cc

      zero_not : (at : ℕ) → at ≢ 0 → not (at == 0) ≡ true
      zero_not at differs = is_not _ (is_false _ (λ e. differs (numbers_same at 0 e)))

      stand_there : (k at : ℕ) → may_stand code acts facts marks lists entries k slot value at ≡ true
          → Stands k at
      stand_there k at e =
          let a = both _ _ e in
          let lt : at < n = is_le (suc at) n a.0 in
          let b = both _ _ a.1 in
          let c = both _ _ b.1 in
          let d = both _ _ c.1 in
          let all = told _ _ (all_tell (supports code acts facts marks slot value) code at lt) d.1 in (
            record {
              below = lt;
              inside = not_zero at b.0;
              handlers = no_entry at (sym (entries_marked code at lt) ∙ un_not _ c.0);
              supported = λ p below comes.
                  yields_there p (change_at code slot p)
                  (sym (supports_is p below) ∙ all p below comes);
            },
            sym (first.told slot at) ∙ number_there _ k d.0,
          )

      there_stand : (k at : ℕ) → Stands k at
          → may_stand code acts facts marks lists entries k slot value at ≡ true
      there_stand k at h =
          let p = h.0 in
          and_both _ _ (le_is (suc at) n p.below)
          (and_both _ _ (zero_not at p.inside)
          (and_both _ _
          (is_not _ (entries_marked code at p.below ∙ entry_none at p.handlers))
          (and_both _ _ (there_number _ k (first.told slot at ∙ h.1))
          (of (all_tell (supports code acts facts marks slot value) code at p.below)
          (λ q below comes. supports_is q below
          ∙ there_yields q (change_at code slot q) (p.supported q below comes))))))
        where
          of : {b : Bool} {P : Type 0} → Tells b P → P → b ≡ true
          of (inl q) p = q.0
          of (inr q) p = absurd (q.1 p)

      -- ---- a range

      on_there : (k count at : ℕ)
          → may_stand_on code acts facts marks lists entries k slot value at count ≡ true
          → (j : ℕ) → at ≤ j → j < at + count → Stands k j
      on_there k zero at e j le lt = absurd (omega (arith, le, lt))
      on_there k (suc count) at e j le lt =
          by (eqb_tells j at)
          (λ further. on_there k count (suc at) (both _ _ e).1 j further (omega (arith, lt)))
        where
          more : j ≢ at → suc at ≤ j
          more differs = of (leb_tells (suc at) j)
            where
              of : ((nat_le (suc at) j ≡ true) × (suc at ≤ j))
                  ⊎ ((nat_le (suc at) j ≡ false) × (j < suc at)) → suc at ≤ j
              of (inl x) = x.1
              of (inr x) = absurd (let near = x.1 in differs (omega (arith, near, le)))

          by : ((nat_eq j at ≡ true) × (j ≡ at)) ⊎ ((nat_eq j at ≡ false) × (j ≢ at))
              → (suc at ≤ j → Stands k j) → Stands k j
          by (inl q) rest = subst (Stands k) (sym q.1) (stand_there k at (both _ _ e).0)
          by (inr q) rest = rest (more q.1)

      there_on : (k count at : ℕ) → ((j : ℕ) → at ≤ j → j < at + count → Stands k j)
          → may_stand_on code acts facts marks lists entries k slot value at count ≡ true
      there_on k zero at h = refl
      there_on k (suc count) at h =
          and_both _ _ (there_stand k at (h at (omega arith) (omega arith)))
          (there_on k count (suc at) (λ j le lt. h j (omega (arith, le)) (omega (arith, lt))))

      -- a fact may stand at each index from one to another, of which its act is the first
      pub range_tells : (k from to : ℕ)
          → Tells (nat_le from to
          && may_stand_on code acts facts marks lists entries k slot value from (to + 1 - from))
          ((from ≤ to) × ((at : ℕ) → from ≤ at → at ≤ to → Stands k at))
      range_tells k from to = tells _ _
          (λ e. let x = both _ _ e in
          let le = is_le from to x.0 in (
            le,
            λ at low high. on_there k (to + 1 - from) from x.1 at low (omega (arith, low, high, le)),
          ))
          (λ h. let le = h.0 in
          and_both _ _ (le_is from to le)
          (there_on k (to + 1 - from) from (λ j low high.
          h.1 j low (omega (arith, low, high, le)))))
