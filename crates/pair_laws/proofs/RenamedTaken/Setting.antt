-- Classes under new names in another order stand each at its place, and each is found by its new name.
use Rattle.std.proofs.Common.{◌≡◌, ℕ, ◌||◌, Bool, true, false, List, [], ◌∷◌, map}
use Rattle.std.proofs.Common.{get_or, Option, Some, None, slice_get, refl, sym, ap, ◌∙◌, arith}
use Rattle.std.specs.Prelude.{is_some}
use Rattle.std.specs.List.{position}
use Rattle.std.specs.Option.{option_map, option_map_or}
use Rattle.std.proofs.lemmas.List.{length-map}
use Rattle.std.proofs.lemmas.List.Quantifiers.{position-Some}
use Rattle.std.proofs.lemmas.List.Sorted.{length_permutation}
use Rattle.std.proofs.lemmas.Option.{slice_get-get_or, slice_get-map, slice_get_within}
use Rattle.std.proofs.Math.Bool.{or-true}
use Rattle.jv_base.specs.Names.{is_text}
use Rattle.jv_base.proofs.Equality.{text_Decides}
use Rattle.lib_table.specs.Lookups as table
use Rattle.class_model.specs.declared.class.Class.{Class}
use Rattle.class_pool.specs.Hierarchy.{class_named, or_found}
use Rattle.class_pool.specs.bodies.Faults.{NamesDiffer}
use Rattle.class_pool.specs.declared.id.ClassId.TheVariants.{Prog, Lib}
use Rattle.class_pool.proofs.Distinct.{program_named}
use Rattle.image_laws.specs.TakenSet.TakenSet.{IsTaken}
use Rattle.image_laws.proofs.TakenSet.Names.{class_found, library_named}
use Rattle.class_rename.specs.Names.{Names}
use Rattle.class_rename.specs.Renamed.{renamed}
use Rattle.pair_laws.specs.RenamedImage.Renaming.{FindsItsClasses, KeepsNamesApart, NamesKnownTypes, is_known}
use Rattle.pair_laws.specs.RenamedImage.Renaming.{is_library_name}
use Rattle.pair_laws.specs.RenamedTaken.NewSet.{IsNewSet}
use Rattle.pair_laws.proofs.RenamedTaken.Orders.{places}
use Rattle.pair_laws.proofs.RenamedTaken.Placed.{IsPlaced, Was, was_at}

-- ---- classes of a set that is taken

pub found_of : (xs : List Class) → IsTaken xs → FindsItsClasses xs
found_of xs taken = record {
  own = λ n c at.
      ap (class_named xs) (sym (ap (λ o. option_map_or (λ (c : Class). c.name) o []) at))
      ∙ class_found xs taken (Prog n) (slice_get_within xs n c at);
  library = library_named xs taken;
}

-- none is in a package of the library
pub not_library : (xs : List Class) → FindsItsClasses xs → (n : ℕ) (c : Class) → slice_get xs n ≡ Some c
    → is_library_name c.name ≡ false
not_library xs found n c at = by (is_library_name c.name) refl
  where
    wrong : (o : Option ℕ) → Some (Prog n) ≡ option_map Lib o → ⊥
    wrong None e = cc
    wrong (Some id) e = cc

    by : (t : Bool) → is_library_name c.name ≡ t → t ≡ false
    by false e = refl
    by true e = absurd (wrong (table.class_named c.name) (sym (found.own n c at) ∙ found.library c.name e))

pub name_known : (xs : List Class) (name : List ℕ) → is_some (class_named xs name) ≡ true → is_known xs name ≡ true
name_known xs name there = ap (λ (t : Bool). is_library_name name || t) there ∙ or-true (is_library_name name)

-- where no element passes, there is no position
no_position : {A : Type 0} (p : A → Bool) (xs : List A)
    → ((k : ℕ) (x : A) → slice_get xs k ≡ Some x → p x ≡ true → ⊥) → position p xs ≡ None
no_position {A} p xs none = by xs none (position p xs) refl
  where
    by : (xs : List A) → ((k : ℕ) (x : A) → slice_get xs k ≡ Some x → p x ≡ true → ⊥) → (o : Option ℕ)
        → position p xs ≡ o → o ≡ None
    by xs none None e = refl
    by [] none (Some k) e = absurd cc
    by (x ∷ xs) none (Some k) e =
        let found = position-Some p (x ∷ xs) k x e in
        absurd (none k (get_or (x ∷ xs) k x) (slice_get-get_or (x ∷ xs) k x found.0) found.1)

-- ---- under new names

module _ (names : Names) (place back : ℕ → ℕ) (xs ys : List Class) (apart : KeepsNamesApart names xs)
    (found : FindsItsClasses xs)
    (at : (n : ℕ) → slice_get ys (place n) ≡ option_map (renamed names) (slice_get xs n))
    (from : (n : ℕ) → place (back n) ≡ n) where
  was : (j : ℕ) (d : Class) → slice_get ys j ≡ Some d → Was names place xs j d
  was = was_at names place back xs ys at from

  own_known : (n : ℕ) (c : Class) → slice_get xs n ≡ Some c → is_known xs c.name ≡ true
  own_known n c is = name_known xs c.name (ap is_some (found.own n c is))

  -- no class gets a name of the library
  still_not : (n : ℕ) (c : Class) → slice_get xs n ≡ Some c → is_library_name (names.class c.name) ≡ false
  still_not n c is = by (is_library_name (names.class c.name)) refl
    where
      by : (t : Bool) → is_library_name (names.class c.name) ≡ t → t ≡ false
      by false e = refl
      by true e = absurd
          (let java : is_known xs (names.class c.name) ≡ true =
          ap (λ (t : Bool). t || is_some (class_named xs (names.class c.name))) e in
          let same : names.class c.name ≡ c.name =
          apart.one_class (names.class c.name) c.name java (own_known n c is)
          (apart.library_class (names.class c.name) e) in
          let wrong : true ≡ false = sym e ∙ ap is_library_name same ∙ not_library xs found n c is in
          cc)

  -- no two classes get one name
  one_class : (i j : ℕ) (c d : Class) → slice_get ys i ≡ Some c → slice_get ys j ≡ Some d → c.name ≡ d.name → i ≡ j
  one_class i j c d at_i at_j same =
      let v = was i c at_i in
      let w = was j d at_j in
      let new_names : names.class v.class.name ≡ names.class w.class.name =
      sym (ap (λ (x : Class). x.name) v.is) ∙ same ∙ ap (λ (x : Class). x.name) w.is in
      let old : v.class.name ≡ w.class.name =
      apart.one_class v.class.name w.class.name (own_known v.n v.class v.there) (own_known w.n w.class w.there)
      new_names in
      let number : Some (Prog v.n) ≡ Some (Prog w.n) =
      sym (found.own v.n v.class v.there) ∙ ap (class_named xs) old ∙ found.own w.n w.class w.there in
      v.place_is ∙ ap place (of_some v.n w.n number) ∙ sym w.place_is
    where
      of_some : (m n : ℕ) → Some (Prog m) ≡ Some (Prog n) → m ≡ n
      of_some m n e = cc

  names_differ : NamesDiffer ys
  names_differ i j d less within same =
      let at_i = slice_get-get_or ys i d (omega (arith, less, within)) in
      let at_j = slice_get-get_or ys j d within in
      let one = one_class i j (get_or ys i d) (get_or ys j d) at_i at_j same in
      omega (arith, one, less)

  not_named : (name : List ℕ) → is_library_name name ≡ true → position (λ c. is_text name c.name) ys ≡ None
  not_named name java = no_position (λ (c : Class). is_text name c.name) ys (λ j d is passes.
      let w = was j d is in
      let own : name ≡ names.class w.class.name =
      (text_Decides name d.name).0 passes ∙ ap (λ (x : Class). x.name) w.is in
      let wrong : true ≡ false = sym java ∙ ap is_library_name own ∙ still_not w.n w.class w.there in
      cc)

  pub found_new : FindsItsClasses ys
  found_new = record {
    own = program_named ys names_differ;
    library = λ name java. ap (λ o. or_found o (option_map Lib (table.class_named name))) (not_named name java);
  }

-- ---- the whole

abbrev pub HasPlaces : Names → List Class → List Class → Type 0
HasPlaces names xs ys = (place : ℕ → ℕ) × (back : ℕ → ℕ) × IsPlaced names place back xs ys

pub placed_at : (names : Names) (xs ys : List Class) → IsTaken xs → NamesKnownTypes xs → IsNewSet names xs ys
    → HasPlaces names xs ys
placed_at names xs ys taken known new =
    let p = places (map (renamed names) xs) ys new.order in
    let found = found_of xs taken in
    let at : (n : ℕ) → slice_get ys (p.0 n) ≡ option_map (renamed names) (slice_get xs n) =
    λ n. p.2.at n ∙ slice_get-map (renamed names) xs n in (
      p.0,
      p.1,
      record {
        taken = taken;
        form = new.form;
        apart = new.apart;
        known = known;
        found = found;
        found_new = found_new names p.0 p.1 xs ys new.apart found at p.2.from;
        long = length_permutation (map (renamed names) xs) ys new.order ∙ length-map xs (renamed names);
        at = at;
        there = p.2.there;
        from = p.2.from;
      },
    )
