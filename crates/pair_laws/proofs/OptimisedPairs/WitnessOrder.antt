-- The entries of the witness stand in the order of the paths of their classes, and none is of a method again.
use Rattle.std.proofs.Common.{◌≡◌, ◌⊎◌, ◌<◌, inl, inr, ℕ, ◌++◌, ◌||◌, Bool, true, false, List, [], ◌∷◌, map, get_or, slice_get}
use Rattle.std.proofs.Common.{Some, Ordering, Less, Equal, Greater, is_lt, nat_cmp, codes, refl, sym, ap, ◌∙◌}
use Rattle.std.specs.Cmp.Lexicographic.{nat_list_cmp_total, slice_cmp}
use Rattle.std.specs.List.{AllByRecursion}
use Rattle.std.proofs.lemmas.Cmp.{tied_itself}
use Rattle.std.proofs.lemmas.Option.{get_or_from_slice_get, same_Some, slice_get_within}
use Rattle.jv_base.specs.Types.{method_text}
use Rattle.jv_base.proofs.Lists.{mapped_from}
use Rattle.class_model.specs.declared.class.Class.{Class}
use Rattle.class_pool.specs.declared.fault.NamedClass.{NamedClass}
use Rattle.class_pool.specs.Faults.{name_fault}
use Rattle.class_pool.proofs.Ascending.{less}
use Rattle.class_pool.proofs.FaultLaws.{path_is}
use Rattle.image_laws.specs.TakenSet.TakenSet.{IsTaken}
use Rattle.removal_laws.proofs.RemovalBuilds.LeftLists.{none_there}
use Rattle.witness_file.specs.Witnesses.{AreApart, AreInOrder, has_method, is_before, is_method}
use Rattle.pair_laws.proofs.NamedForm.Written.{files_named}
use Rattle.pair_laws.proofs.OptimisedPairs.EditedMethods.{AreOrdered, EditedMethod, IsBelow, IsEditedMethod, entry_of}
use Rattle.pair_laws.proofs.OptimisedPairs.Looked.{that_one}
use Rattle.pair_laws.proofs.OptimisedPairs.NoStray.{below_differ}

-- ---- paths

-- of two texts in their order the second isn't before the first
not_back : (p q : List ℕ) → is_lt (slice_cmp nat_cmp p q) ≡ true → is_lt (slice_cmp nat_cmp q p) ≡ false
not_back p q first = by (is_lt (slice_cmp nat_cmp q p)) refl
  where
    none : (o : Ordering) → o ≡ Equal → is_lt o ≡ true → false ≡ true
    none Less same lt = absurd cc
    none Equal same lt = lt
    none Greater same lt = absurd cc

    by : (b : Bool) → is_lt (slice_cmp nat_cmp q p) ≡ b → b ≡ false
    by false h = refl
    by true h =
        let round : slice_cmp nat_cmp p p ≡ Less =
        nat_list_cmp_total.trans p q p (less (slice_cmp nat_cmp p q) first) (less (slice_cmp nat_cmp q p) h) in
        sym (none (slice_cmp nat_cmp p p) (tied_itself nat_list_cmp_total p) (ap is_lt round))

not_before_itself : (p : List ℕ) → is_lt (slice_cmp nat_cmp p p) ≡ false
not_before_itself p = ap is_lt (tied_itself nat_list_cmp_total p)

-- ---- classes

module _ (classes : List Class) (taken : IsTaken classes) where
  -- the file of a class stands at the path of its name
  file_of : (n : ℕ) (c : Class) → slice_get classes n ≡ Some c
      → (f : NamedClass) × (slice_get taken.files n ≡ Some f) × (f.path ≡ c.name ++ codes ".class")
  file_of n c at =
      let from = mapped_from (λ (f : NamedClass). f.class) taken.files n c
      (ap (λ (cs : List Class). slice_get cs n) (sym taken.built.2) ∙ at) in
      let named = files_named classes (record {
        files = taken.files;
        ascend = taken.ascend;
        built = taken.built;
        linked = taken.linked;
      }) in
      let path = path_is from.0 (none_there (λ (f : NamedClass). f.class) name_fault taken.files n from.0 named from.1) in
      (from.0, from.1, path ∙ ap (λ (c : Class). c.name ++ codes ".class") (sym from.2))

  ordered_by : (n j : ℕ) (c d : Class) → slice_get classes n ≡ Some c → slice_get classes j ≡ Some d
      → (n < j) ⊎ (n ≡ j) → is_before d.name c.name ≡ false
  ordered_by n j c d at there (inl low) =
      let f = file_of n c at in
      let g = file_of j d there in
      let first : get_or taken.files n f.0 ≡ f.0 = get_or_from_slice_get taken.files n f.0 f.0 f.1 in
      let second : get_or taken.files j f.0 ≡ g.0 = get_or_from_slice_get taken.files j g.0 f.0 g.1 in
      let ascends : is_lt (slice_cmp nat_cmp (c.name ++ codes ".class") (d.name ++ codes ".class")) ≡ true =
      (λ i. is_lt (slice_cmp nat_cmp ((sym f.2 ∙ ap (λ (x : NamedClass). x.path) (sym first)) i)
      ((sym g.2 ∙ ap (λ (x : NamedClass). x.path) (sym second)) i)))
      ∙ taken.ascend n j f.0 low (slice_get_within taken.files j g.0 g.1) in
      not_back (c.name ++ codes ".class") (d.name ++ codes ".class") ascends
  ordered_by n j c d at there (inr same) =
      let class_is : c ≡ d = same_Some c d (sym at ∙ ap (slice_get classes) same ∙ there) in
      ap (λ (x : Class). is_before d.name x.name) class_is ∙ not_before_itself (d.name ++ codes ".class")

  -- ---- entries

  class_of_below : (d e : EditedMethod) → IsBelow d.spot e.spot → (d.spot.class < e.spot.class) ⊎ (d.spot.class ≡ e.spot.class)
  class_of_below d e (inl low) = inl low
  class_of_below d e (inr low) = inr low.0

  pub in_order : (ds : List EditedMethod) → AllByRecursion (IsEditedMethod classes) ds → AreOrdered ds
      → AreInOrder (map entry_of ds)
  in_order [] are ordered = tt
  in_order (d ∷ []) are ordered = tt
  in_order (d ∷ e ∷ ds) are ordered = (
    ordered_by d.spot.class e.spot.class d.class e.class are.0.at.in_set are.1.0.at.in_set
        (class_of_below d e ordered.0.0),
    in_order (e ∷ ds) are.1 ordered.1,
  )

  -- a method that stands behind an edited one isn't that
  not_behind : (d e : EditedMethod) → IsEditedMethod classes d → IsEditedMethod classes e → IsBelow d.spot e.spot
      → is_method d.class.name d.method.name (method_text d.method.ty) (entry_of e) ≡ false
  not_behind d e is other low =
      by (is_method d.class.name d.method.name (method_text d.method.ty) (entry_of e)) refl
    where
      by : (b : Bool) → is_method d.class.name d.method.name (method_text d.method.ty) (entry_of e) ≡ b → b ≡ false
      by false h = refl
      by true h =
          let that = that_one classes taken d.spot.class d.spot.method d.class d.method is.at.in_set is.at.in_class e
          other h in
          absurd (below_differ classes taken d e low (sym that.class) (sym that.method))

  none_behind : (d : EditedMethod) (ds : List EditedMethod) → IsEditedMethod classes d
      → AllByRecursion (IsEditedMethod classes) ds
      → AllByRecursion (λ (e : EditedMethod). IsBelow d.spot e.spot) ds
      → has_method (map entry_of ds) d.class.name d.method.name (method_text d.method.ty) ≡ false
  none_behind d [] is are below = refl
  none_behind d (e ∷ ds) is are below =
      λ i. not_behind d e is are.0 below.0 i || none_behind d ds is are.1 below.1 i

  pub apart : (ds : List EditedMethod) → AllByRecursion (IsEditedMethod classes) ds → AreOrdered ds
      → AreApart (map entry_of ds)
  apart [] are ordered = tt
  apart (d ∷ ds) are ordered = (none_behind d ds are.0 are.1 ordered.0, apart ds are.1 ordered.1)
