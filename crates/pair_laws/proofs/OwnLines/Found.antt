-- The class of the output with the new name of a class that is marked is what that class has become.
use Rattle.std.proofs.Common.{◌≡◌, ℕ, zero, suc, ◌||◌, Bool, true, false, cond, List, [], ◌∷◌, Option, Some, slice_get}
use Rattle.std.proofs.Common.{inr, refl, sym, ap, ◌∙◌}
use Rattle.std.specs.Prelude.{IsPermutation}
use Rattle.std.specs.List.{Contains, position}
use Rattle.std.specs.Option.{option_map}
use Rattle.std.proofs.lemmas.Bool.{or_right}
use Rattle.std.proofs.lemmas.List.Sorted.{Contains-permutation, IsPermutation-sym}
use Rattle.std.proofs.lemmas.Option.{get_or_from_slice_get, same_Some, slice_get-get_or}
use Rattle.std.proofs.lemmas.Option.{slice_get_within}
use Rattle.jv_base.specs.Names.{is_text}
use Rattle.jv_base.proofs.Equality.{text_itself}
use Rattle.jv_base.proofs.Lists.{mapped_from, got_mapped}
use Rattle.mark_core.specs.Marks.{Closed, set_of}
use Rattle.class_model.specs.declared.class.Class.{Class}
use Rattle.class_pool.specs.Items.{class_item}
use Rattle.class_pool.proofs.Distinct.{position_next}
use Rattle.keep_rules.specs.declared.rules.Rules.{Rules}
use Rattle.attribute_filter.specs.Filtered.{filtered}
use Rattle.attribute_filter.specs.KeptAttributes.{filter_of}
use Rattle.member_shrink.specs.Shrunk.{is_marked, shrunk}
use Rattle.rule_system.specs.Required.{kept_by_rules, required}
use Rattle.image_laws.specs.ShrunkImage.Keeping.{rank}
use Rattle.image_laws.proofs.ShrunkImage.Classes.{class_at, f, p}
use Rattle.image_laws.specs.TakenSet.TakenSet.{IsTaken}
use Rattle.removal_laws.proofs.RemovalLinks.Left.{stays}
use Rattle.class_rename.specs.Names.{Names, same_names}
use Rattle.class_rename.specs.Renamed.{renamed}
use Rattle.fresh_names.specs.Fresh.{is_taken}
use Rattle.fresh_names.specs.Given.{class_names}
use Rattle.fresh_names.proofs.Tables.{classes_differ}
use Rattle.rename_map.specs.Fixed.{names_that_stay}
use Rattle.rename_map.specs.Names.{given_beside}
use Rattle.set_shrink.specs.Order.{in_order}
use Rattle.set_shrink.specs.ShrunkSet.{left_of, new_names, renamed_of}
use Rattle.mapping_file.specs.declared.mapping.Mapping.{Mapping}
use Rattle.new_names.specs.NewNames.{tables_of}
use Rattle.pair_laws.proofs.NamedForm.Written.{all_written}
use Rattle.pair_clauses.specs.Shape.{number_of}
use Rattle.pair_laws.proofs.PairSame.Expected.{numbered_class}
use Rattle.pair_laws.proofs.OwnLines.Told.{one_class}

-- ---- places in lists

contained : {X : Type 0} (xs : List X) (k : ℕ) (x : X) → slice_get xs k ≡ Some x → Contains xs x
contained xs k x at = (k, slice_get_within xs k x at, get_or_from_slice_get xs k x x at)

place_of : {X : Type 0} (xs : List X) (x : X) → Contains xs x → (k : ℕ) × (slice_get xs k ≡ Some x)
place_of xs x h = (h.0, slice_get-get_or xs h.0 x h.1 ∙ ap Some h.2)

-- an element stands in a list with the same elements too
moved : {X : Type 0} (xs ys : List X) (k : ℕ) (x : X) → IsPermutation xs ys → slice_get xs k ≡ Some x
    → (j : ℕ) × (slice_get ys j ≡ Some x)
moved xs ys k x same at = place_of ys x (Contains-permutation xs ys x same (contained xs k x at))

-- one that passes is found, maybe before it
some_place : {X : Type 0} (test : X → Bool) (xs : List X) (k : ℕ) (x : X) → slice_get xs k ≡ Some x → test x ≡ true
    → (j : ℕ) × (position test xs ≡ Some j)
some_place test [] k x at passes = absurd cc
some_place test (y ∷ xs) zero x at passes =
    let is : y ≡ x = cc in (
      0,
      position_next test y xs
          ∙ ap (λ (b : Bool). cond b (Some 0) (option_map suc (position test xs))) (ap test is ∙ passes),
    )
some_place test (y ∷ xs) (suc k) x at passes = by (test y) refl (some_place test xs k x at passes)
  where
    by : (b : Bool) → test y ≡ b → (j : ℕ) × (position test xs ≡ Some j)
        → (j : ℕ) × (position test (y ∷ xs) ≡ Some j)
    by true e r = (
      0,
      position_next test y xs
          ∙ ap (λ (b : Bool). cond b (Some 0) (option_map suc (position test xs))) e,
    )
    by false e r = (
      suc r.0,
      position_next test y xs
          ∙ ap (λ (b : Bool). cond b (Some 0) (option_map suc (position test xs))) e ∙ ap (option_map suc) r.1,
    )

-- a class of a list has one of the names
among : (cs : List Class) (k : ℕ) (c : Class) → slice_get cs k ≡ Some c → is_taken (class_names cs) c.name ≡ true
among [] k c at = absurd cc
among (d ∷ cs) zero c at =
    let is : d ≡ c = cc in
    ap (λ (x : Class). is_text c.name x.name || is_taken (class_names cs) c.name) is
    ∙ ap (λ (b : Bool). b || is_taken (class_names cs) c.name) (text_itself c.name)
among (d ∷ cs) (suc k) c at = or_right (is_text c.name d.name) (is_taken (class_names cs) c.name) (among cs k c at)

-- ---- what is written

module _ (classes : List Class) (marks : List Bool) (rules : Rules) (old : Option Mapping) (taken : IsTaken classes)
    (closed : Closed (required classes rules) (set_of marks)) where
  abbrev names : Names
  names = new_names classes marks rules old

  abbrev kept : List Class
  kept = shrunk classes marks

  abbrev all_renamed : List Class
  all_renamed = renamed_of classes marks rules old

  abbrev left : List Class
  left = left_of classes marks rules old

  -- what a class becomes
  abbrev pub become : ℕ → Class → Class
  become n c = filtered (filter_of rules) (renamed names (f classes marks n c))

  same_elements : IsPermutation all_renamed (in_order all_renamed)
  same_elements = all_written classes rules old marks
      (record { files = taken.files; ascend = taken.ascend; built = taken.built; linked = taken.linked })

  -- no two kept classes get one name
  one_name : (a b : List ℕ) → is_taken (class_names kept) a ≡ true → is_taken (class_names kept) b ≡ true
      → names.class a ≡ names.class b → a ≡ b
  one_name a b h k same = by rules.obfuscate same
    where
      by : (t : Bool) → (cond t (given_beside (names_that_stay rules classes) (tables_of old) kept) same_names).class a
          ≡ (cond t (given_beside (names_that_stay rules classes) (tables_of old) kept) same_names).class b → a ≡ b
      by true same =
          classes_differ (tables_of old).classes (names_that_stay rules classes).classes (class_names kept) a b (inr h)
          (inr k) same
      by false same = same

  -- what is written comes of a class whose name is kept
  record Comes (d : Class) : Type 0 where
    n : ℕ
    class : Class
    there : slice_get classes n ≡ Some class
    named : is_taken (class_names kept) class.name ≡ true
    is : d ≡ become n class

  comes_of : (d : Class) (i : ℕ) (x : Class) → slice_get kept i ≡ Some x
      → d ≡ filtered (filter_of rules) (renamed names x) → Comes d
  comes_of d i x at is =
      let s = stays classes (kept_by_rules classes rules) marks closed taken i x at in
      record {
        n = s.n;
        class = s.class;
        there = s.there;
        named = sym (ap (λ (y : Class). is_taken (class_names kept) y.name) s.is) ∙ among kept i x at;
        is = is ∙ ap (λ (y : Class). filtered (filter_of rules) (renamed names y)) s.is;
      }

  comes_renamed : (d : Class) (j : ℕ) (r : Class) → slice_get all_renamed j ≡ Some r → d ≡ filtered (filter_of rules) r
      → Comes d
  comes_renamed d j r at is =
      let o = mapped_from (renamed names) kept j r at in
      comes_of d j o.0 o.1 (is ∙ ap (filtered (filter_of rules)) o.2)

  comes : (k : ℕ) (d : Class) → slice_get left k ≡ Some d → Comes d
  comes k d at =
      let r = mapped_from (filtered (filter_of rules)) (in_order all_renamed) k d at in
      let back = IsPermutation-sym all_renamed (in_order all_renamed) same_elements in
      let j = moved (in_order all_renamed) all_renamed k r.0 back r.1 in
      comes_renamed d j.0 r.0 j.1 r.2

  module _ (n : ℕ) (c : Class) (at : slice_get classes n ≡ Some c)
      (marked : is_marked marks (class_item classes n) ≡ true) where
    kept_at : slice_get kept (rank (p classes marks) 0 n) ≡ Some (f classes marks n c)
    kept_at = class_at classes marks n marked ∙ ap (option_map (f classes marks n)) at

    -- it stands there
    written : (k : ℕ) × (slice_get left k ≡ Some (become n c))
    written =
        let j = moved all_renamed (in_order all_renamed) (rank (p classes marks) 0 n)
        (renamed names (f classes marks n c)) same_elements
        (got_mapped (renamed names) kept (rank (p classes marks) 0 n) (f classes marks n c) kept_at) in (
          j.0,
          got_mapped (filtered (filter_of rules)) (in_order all_renamed) j.0 (renamed names (f classes marks n c))
              j.1,
        )

    -- and nothing else has its name
    only : (d : Class) → Comes d → d.name ≡ names.class c.name → d ≡ become n c
    only d o same =
        let name : o.class.name ≡ c.name =
        one_name o.class.name c.name o.named
        (among kept (rank (p classes marks) 0 n) (f classes marks n c) kept_at)
        (sym (ap (λ (x : Class). x.name) o.is) ∙ same) in
        let own : o.n ≡ n = one_class classes taken n c at o.n o.class o.there name in
        let class : o.class ≡ c = same_Some o.class c (sym o.there ∙ ap (slice_get classes) own ∙ at) in
        o.is ∙ ap (λ (i : ℕ). become i o.class) own ∙ ap (become n) class

    -- so that name finds it
    pub found_new : (k : ℕ) × (number_of left (names.class c.name) ≡ Some k) × (slice_get left k ≡ Some (become n c))
    found_new =
        let w = written in
        let k = some_place (λ (d : Class). is_text (names.class c.name) d.name) left w.0 (become n c) w.1
        (text_itself (names.class c.name)) in
        let d = numbered_class left (names.class c.name) k.0 k.1 in
        (k.0, k.1, d.1 ∙ ap Some (only d.0 (comes k.0 d.0 d.1) d.2))
