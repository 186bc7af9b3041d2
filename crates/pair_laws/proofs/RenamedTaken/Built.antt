-- `build` has no fault to tell of files of classes under new names (JVMS 4.1, 4.10, 5.3.5).
use Rattle.std.proofs.Common.{◌≡◌, ◌+◌, ⊎_elim, ℕ, nat_eq, not, ◌&&◌, ◌||◌, Bool, true, false, cond, List, [], ◌∷◌}
use Rattle.std.proofs.Common.{◌++◌, length, map, Option, Some, None, Ok, Err, slice_get, refl, sym, ap, subst, ◌∙◌}
use Rattle.std.specs.Prelude.{codes, is_some}
use Rattle.std.specs.List.{AllByRecursion, list_any, starts_with}
use Rattle.std.specs.Option.{is_none, option_map, option_map_or}
use Rattle.std.proofs.lemmas.Bool.Decides.{same_from_decides}
use Rattle.std.proofs.lemmas.List.{length-map}
use Rattle.std.proofs.lemmas.List.Sorted.{sum_by-IsPermutation}
use Rattle.std.proofs.lemmas.List.Sums.{sum_by-cons}
use Rattle.std.proofs.lemmas.Option.{slice_get-map, slice_get_within}
use Rattle.jv_base.specs.Names.{is_text}
use Rattle.jv_base.specs.declared.outcome.Or.TheVariants.{Fault}
use Rattle.jv_base.proofs.Equality.{text_Decides}
use Rattle.jv_base.proofs.Lists.{all_at}
use Rattle.class_model.specs.Flags.{is_interface}
use Rattle.class_model.specs.declared.class.Class.{Class}
use Rattle.lib_table.specs.declared.class.LibKind.{LibKind}
use Rattle.lib_table.specs.declared.class.LibKind.TheVariants.{Open}
use Rattle.class_pool.specs.Count.{item_count, items_of}
use Rattle.class_pool.specs.Faults.{Builds, classes_of, is_wrong_interface, name_fault, name_faults, super_fault}
use Rattle.class_pool.specs.Faults.{super_faults, then_super_faults}
use Rattle.class_pool.specs.Hierarchy.{class_named, is_interface_kind, is_open_kind, kind_in, kind_of}
use Rattle.class_pool.specs.Supertypes.{NoCycle}
use Rattle.class_pool.specs.declared.fault.NamedClass.{NamedClass}
use Rattle.class_pool.specs.declared.fault.PoolFault.{PoolFault}
use Rattle.class_pool.specs.declared.fault.PoolKind.TheVariants.{LibraryName, NameMismatch, SuperKind, SuperMissing}
use Rattle.class_pool.specs.declared.id.ClassId.{ClassId}
use Rattle.class_pool.specs.declared.id.ClassId.TheVariants.{Prog, Lib}
use Rattle.class_pool.proofs.CycleLaws.{first_are, none_cyclic}
use Rattle.removal_laws.proofs.RemovalBuilds.LeftLists.{none_of_each, none_there}
use Rattle.image_laws.proofs.TakenSet.Proper.{names_right}
use Rattle.class_rename.specs.Names.{Names}
use Rattle.class_rename.specs.Renamed.{renamed, renamed_field, renamed_method}
use Rattle.pair_laws.specs.RenamedImage.Renaming.{placed_class}
use Rattle.pair_laws.specs.RenamedTaken.NewSet.{AreFilesOf, IsNewSet}
use Rattle.pair_laws.proofs.RenamedTaken.Placed.{IsPlaced, named_new, was}
use Rattle.pair_laws.proofs.RenamedTaken.Ranks.{ranks_new}
use Rattle.pair_laws.proofs.RenamedTaken.Setting.{name_known, not_library}

-- ---- how many items there are

items_same : (names : Names) (cs : List Class) → item_count (map (renamed names) cs) ≡ item_count cs
items_same names [] = refl
items_same names (c ∷ cs) =
    sum_by-cons items_of (renamed names c) (map (renamed names) cs)
    ∙ ap (λ (n : ℕ). n + item_count (map (renamed names) cs)) one
    ∙ ap (λ (n : ℕ). items_of c + n) (items_same names cs)
    ∙ sym (sum_by-cons items_of c cs)
  where
    one : items_of (renamed names c) ≡ items_of c
    one =
        ap (λ (n : ℕ). 1 + n + length (map (renamed_method names) c.methods))
        (length-map c.fields (renamed_field names))
        ∙ ap (λ (n : ℕ). 1 + length c.fields + n) (length-map c.methods (renamed_method names))

pub count_same : (names : Names) (xs ys : List Class) → IsNewSet names xs ys → item_count ys ≡ item_count xs
count_same names xs ys new =
    sum_by-IsPermutation items_of (map (renamed names) xs) ys new.order ∙ items_same names xs

module _ (names : Names) (place back : ℕ → ℕ) (xs ys : List Class) (h : IsPlaced names place back xs ys) where
  -- ---- supertypes

  abbrev IsThere : List ℕ → Type 0
  IsThere name = is_some (class_named xs name) ≡ true

  kind_same : (x : ClassId) → kind_in ys (placed_class place x) ≡ kind_in xs x
  kind_same (Lib id) = refl
  kind_same (Prog n) = ap (λ o. option_map_or kind_of o Open) (h.at n) ∙ by (slice_get xs n)
    where
      by : (o : Option Class) → option_map_or kind_of (option_map (renamed names) o) Open ≡ option_map_or kind_of o Open
      by None = refl
      by (Some c) = refl

  some_new : (name : List ℕ) → IsThere name
      → class_named ys (names.class name) ≡ option_map (placed_class place) (class_named xs name)
  some_new name there = by (class_named xs name) refl there
    where
      by : (o : Option ClassId) → class_named xs name ≡ o → is_some o ≡ true
          → class_named ys (names.class name) ≡ option_map (placed_class place) o
      by None e t = absurd cc
      by (Some x) e t = named_new names place back xs ys h name x e

  missing_same : (name : List ℕ) → IsThere name
      → is_none (class_named ys (names.class name)) ≡ is_none (class_named xs name)
  missing_same name there = ap (λ (o : Option ClassId). is_none o) (some_new name there) ∙ by (class_named xs name)
    where
      by : (o : Option ClassId) → is_none (option_map (placed_class place) o) ≡ is_none o
      by None = refl
      by (Some x) = refl

  wrong_same : (test : LibKind → Bool) (name : List ℕ) → IsThere name
      → option_map_or (λ id. not (test (kind_in ys id))) (class_named ys (names.class name)) false
      ≡ option_map_or (λ id. not (test (kind_in xs id))) (class_named xs name) false
  wrong_same test name there =
      ap (λ (o : Option ClassId). option_map_or (λ id. not (test (kind_in ys id))) o false) (some_new name there)
      ∙ by (class_named xs name)
    where
      by : (o : Option ClassId)
          → option_map_or (λ id. not (test (kind_in ys id))) (option_map (placed_class place) o) false
          ≡ option_map_or (λ id. not (test (kind_in xs id))) o false
      by None = refl
      by (Some x) = ap (λ (k : LibKind). not (test k)) (kind_same x)

  any_same : (new old : List ℕ → Bool) → ((name : List ℕ) → IsThere name → new (names.class name) ≡ old name)
      → (ns : List (List ℕ)) → AllByRecursion IsThere ns → list_any new (map names.class ns) ≡ list_any old ns
  any_same new old same [] there = refl
  any_same new old same (name ∷ ns) there =
      λ j. same name there.0 j || any_same new old same ns there.1 j

  -- a name is Object's exactly where it was
  object_same : (name : List ℕ) → IsThere name
      → is_text (names.class name) (codes "java/lang/Object") ≡ is_text name (codes "java/lang/Object")
  object_same name there =
      let stays : names.class (codes "java/lang/Object") ≡ codes "java/lang/Object" =
      h.apart.library_class (codes "java/lang/Object") refl in
      same_from_decides {P = name ≡ codes "java/lang/Object"} (is_text (names.class name) (codes "java/lang/Object"))
      (is_text name (codes "java/lang/Object")) (
        λ e. h.apart.one_class name (codes "java/lang/Object") (name_known xs name there) refl
            ((text_Decides (names.class name) (codes "java/lang/Object")).0 e ∙ sym stays),
        λ e. (text_Decides (names.class name) (codes "java/lang/Object")).1 (ap names.class e ∙ stays),
      ) (text_Decides name (codes "java/lang/Object"))

  fault_same : (n : ℕ) (c : Class) → slice_get xs n ≡ Some c → super_fault ys (renamed names c) ≡ super_fault xs c
  fault_same n c at =
      let above = h.known.super_class n c at in
      let beside = h.known.interfaces n c at in
      λ j. cond (missing_same c.super_name above j
      || any_same (λ name. is_none (class_named ys name)) (λ name. is_none (class_named xs name)) missing_same
      c.interfaces beside j)
      (Some SuperMissing)
      (cond (wrong_same is_open_kind c.super_name above j
      || any_same (is_wrong_interface ys) (is_wrong_interface xs) (wrong_same is_interface_kind) c.interfaces beside j
      || (is_interface c.flags.0 && not (object_same c.super_name above j)))
      (Some SuperKind) None)

  old_right : super_faults xs ≡ Ok tt
  old_right = subst (λ (cs : List Class). super_faults cs ≡ Ok tt) (sym h.taken.built.2)
      (sym (ap (then_super_faults h.taken.files) (names_right xs h.taken)) ∙ h.taken.built.0)

  supers_new : super_faults ys ≡ Ok tt
  supers_new = none_of_each (λ (c : Class). c) (super_fault ys) ys (λ j d at.
      let w = was names place back xs ys h j d at in
      ap (super_fault ys) w.is ∙ fault_same w.n w.class w.there
      ∙ none_there (λ (c : Class). c) (super_fault xs) xs w.n w.class old_right w.there)

  -- ---- files

  module _ (files : List NamedClass) (are : AreFilesOf ys files) where
    no_fault : (f : NamedClass) → is_text f.path (f.class.name ++ codes ".class") ≡ true
        → starts_with nat_eq f.class.name (codes "java/") ≡ false → name_fault f ≡ None
    no_fault f path free = λ j. cond (not (path j)) (Some NameMismatch) (cond (free j) (Some LibraryName) None)

    names_new : name_faults files ≡ Ok tt
    names_new = none_of_each (λ (f : NamedClass). f.class) name_fault files (λ k f at.
        let class : slice_get ys k ≡ Some f.class =
        ap (λ (cs : List Class). slice_get cs k) (sym are.classes_are)
        ∙ slice_get-map (λ (f : NamedClass). f.class) files k ∙ ap (option_map (λ (f : NamedClass). f.class)) at in
        let path = all_at (λ (f : NamedClass). f.path ≡ f.class.name ++ codes ".class") files k f are.paths at in
        no_fault f ((text_Decides f.path (f.class.name ++ codes ".class")).1 path)
        (not_library ys h.found_new k f.class class))

    pub built_new : Builds (Ok ys) files
    built_new = (
      first_are files ys names_new supers_new (sym are.classes_are),
      subst NoCycle (sym are.classes_are) (none_cyclic ys (ranks_new names place back xs ys h)),
      sym are.classes_are,
    )

    -- so `build` tells none
    pub no_other : (fault : PoolFault) → Builds (Err (Fault fault)) files → ⊥
    no_other fault wrong =
        ⊎_elim
        (λ first. let e : Ok tt ≡ Err fault = sym built_new.0 ∙ first in cc)
        (λ cycle. let found = cycle.1 in
        built_new.1 found.0 (slice_get_within (classes_of files) found.0 found.1 found.2) found.4)
        wrong
