-- Kept classes under new names that are given in their order can be written.
use Rattle.std.proofs.Common.{◌≡◌, ◌⊎◌, inl, inr, ℕ, zero, suc, Bool, true, false, not, ◌||◌, List, [], ◌∷◌, ◌++◌, map}
use Rattle.std.proofs.Common.{flat_map, subst}
use Rattle.std.proofs.Common.{slice_get, Some, refl, sym, ap, ◌∙◌}
use Rattle.std.specs.List.{AllByRecursion, list_any}
use Rattle.std.specs.Option.{option_map}
use Rattle.std.proofs.lemmas.Option.{same_Some, slice_get-map}
use Rattle.std.proofs.lemmas.Bool.{and_from, or_right}
use Rattle.jv_base.specs.Names.{is_text}
use Rattle.jv_base.specs.Types.{method_text}
use Rattle.jv_base.proofs.Equality.{text_Decides, text_itself}
use Rattle.jv_base.proofs.Lists.{all_from, any_at}
use Rattle.class_model.specs.declared.class.Class.{Class}
use Rattle.class_model.specs.declared.class.Field.{Field}
use Rattle.class_model.specs.declared.class.Method.{Method}
use Rattle.class_rename.specs.Names.{MethodName, Tables, is_same_method}
use Rattle.fresh_names.specs.Fresh.{is_taken}
use Rattle.fresh_names.specs.Given.{NameTable, class_given, class_names, field_names, front_of, method_names, names_given}
use Rattle.fresh_names.specs.Given.{of_type}
use Rattle.fresh_names.specs.declared.taken.TakenNames.{TakenNames}
use Rattle.fresh_names.proofs.Reserved.{taken_parts}
use Rattle.fresh_names.proofs.Groups.{pair_taken}
use Rattle.fresh_names.proofs.Tables.{classes_differ, fields_differ, methods_differ, packages_stay}
use Rattle.pair_laws.specs.RenamedForm.Form.{TellsApart, TypesAreKnown}
use Rattle.pair_laws.specs.RenamedForm.GivenForm.{GivenAreWritable, is_known}
use Rattle.pair_laws.proofs.RenamedForm.Apart.{kept_apart}
use Rattle.pair_laws.proofs.RenamedForm.Formed.{counts_fit, formed}
use Rattle.pair_laws.proofs.RenamedForm.Given.{given_form, other_class_stays}
use Rattle.pair_laws.proofs.RenamedForm.Valued.{class_valued}

three : (x y z : Bool) → (x || y || not z) ≡ true → ((x ≡ true) ⊎ (y ≡ true)) ⊎ (z ≡ false)
three true y z h = inl (inl refl)
three false true z h = inl (inr refl)
three false false true h = absurd cc
three false false false h = inr refl

-- ---- names of kept members

module _ {A : Type 0} (name : A → List ℕ) (all : List (List ℕ)) where
  all_taken : (xs : List A) → ((a : List ℕ) → is_taken (map name xs) a ≡ true → is_taken all a ≡ true)
      → AllByRecursion (λ (x : A). is_taken all (name x) ≡ true) xs
  all_taken [] more = tt
  all_taken (x ∷ xs) more = (
    more (name x) (ap (λ (b : Bool). b || is_taken (map name xs) (name x)) ((text_Decides (name x) (name x)).1 refl)),
    all_taken xs (λ a h. more a (or_right (is_text a (name x)) (is_taken (map name xs) a) h)),
  )

any_parts : {Y : Type 0} (p : Y → Bool) (xs ys : List Y) → list_any p (xs ++ ys) ≡ (list_any p xs || list_any p ys)
any_parts p [] ys = refl
any_parts p (x ∷ xs) ys = by (p x) (any_parts p xs ys)
  where
    by : (b : Bool) → list_any p (xs ++ ys) ≡ (list_any p xs || list_any p ys)
        → (b || list_any p (xs ++ ys)) ≡ ((b || list_any p xs) || list_any p ys)
    by true r = refl
    by false r = r

pub in_kept : (f : Class → List (List ℕ)) (classes : List Class) (k : ℕ) (c : Class) → slice_get classes k ≡ Some c
    → (a : List ℕ) → is_taken (f c) a ≡ true → is_taken (flat_map f classes) a ≡ true
in_kept f [] k c at a h = absurd cc
in_kept f (d ∷ ds) zero c at a h =
    taken_parts (f d) (flat_map f ds) a
    ∙ ap (λ (e : Class). is_taken (f e) a || is_taken (flat_map f ds) a) (same_Some d c at)
    ∙ ap (λ (b : Bool). b || is_taken (flat_map f ds) a) h
in_kept f (d ∷ ds) (suc k) c at a h =
    taken_parts (f d) (flat_map f ds) a
    ∙ or_right (is_taken (f d) a) (is_taken (flat_map f ds) a) (in_kept f ds k c at a h)

-- the same of any test
pub any_in : {X Y : Type 0} (p : Y → Bool) (f : X → List Y) (xs : List X) (k : ℕ) (x : X) → slice_get xs k ≡ Some x
    → list_any p (f x) ≡ true → list_any p (flat_map f xs) ≡ true
any_in p f [] k x at h = absurd cc
any_in {X} p f (y ∷ xs) zero x at h =
    any_parts p (f y) (flat_map f xs)
    ∙ ap (λ (z : X). list_any p (f z) || list_any p (flat_map f xs)) (same_Some y x at)
    ∙ ap (λ (b : Bool). b || list_any p (flat_map f xs)) h
any_in p f (y ∷ xs) (suc k) x at h =
    any_parts p (f y) (flat_map f xs)
    ∙ or_right (list_any p (f y)) (list_any p (flat_map f xs)) (any_in p f xs k x at h)

-- the names and descriptors of the methods of a class (JVMS 4.6)
abbrev pub methods_of : Class → List MethodName
methods_of c = map (λ (m : Method). (m.name, method_text m.ty)) c.methods

pub same_itself : (m : MethodName) → is_same_method m m ≡ true
same_itself m = and_from (is_text m.0 m.0) (is_text m.1 m.1) (text_itself m.0) (text_itself m.1)

-- the name of a method is among those of its descriptor
pub method_among : (classes : List Class) (k : ℕ) (c : Class) → slice_get classes k ≡ Some c
    → (j : ℕ) (m : Method) → slice_get c.methods j ≡ Some m
    → is_taken (of_type (method_text m.ty) (method_names classes)) m.name ≡ true
method_among classes k c at j m there =
    let named : MethodName = (m.name, method_text m.ty) in
    sym (pair_taken (method_names classes) m.name (method_text m.ty))
    ∙ any_in (is_same_method named) methods_of classes k c at
    (any_at (is_same_method named) (methods_of c) j named
    (slice_get-map (λ (m : Method). (m.name, method_text m.ty)) c.methods j
    ∙ ap (option_map (λ (m : Method). (m.name, method_text m.ty))) there)
    (same_itself named))

module _ {A : Type 0} (P : A → Type 0) (S : A → A → Type 0) (each : (x y : A) → P x → P y → S x y) where
  one_with : (x : A) (ys : List A) → P x → AllByRecursion P ys → AllByRecursion (S x) ys
  one_with x [] p all = tt
  one_with x (y ∷ ys) p all = (each x y p all.0, one_with x ys p all.1)

  all_with : (xs ys : List A) → AllByRecursion P xs → AllByRecursion P ys
      → AllByRecursion (λ (x : A). AllByRecursion (S x) ys) xs
  all_with [] ys all others = tt
  all_with (x ∷ xs) ys all others = (one_with x ys all.0 others, all_with xs ys all.1 others)

-- ---- names of classes

front_there : (names : List (List ℕ)) (a : List ℕ) → is_taken names a ≡ true
    → is_taken (map front_of names) (front_of a) ≡ true
front_there [] a h = absurd cc
front_there (x ∷ xs) a h = on (is_text a x) refl h (front_there xs a)
  where
    on : (b : Bool) → is_text a x ≡ b → (b || is_taken xs a) ≡ true
        → (is_taken xs a ≡ true → is_taken (map front_of xs) (front_of a) ≡ true)
        → (is_text (front_of a) (front_of x) || is_taken (map front_of xs) (front_of a)) ≡ true
    on true e h more = ap (λ (b : Bool). b || is_taken (map front_of xs) (front_of a))
        ((text_Decides (front_of a) (front_of x)).1 (ap front_of ((text_Decides a x).0 e)))
    on false e h more = or_right (is_text (front_of a) (front_of x)) (is_taken (map front_of xs) (front_of a)) (more h)

module _ (old : NameTable) (stays names : List (List ℕ)) (a : List ℕ)
    (outside : is_taken (map front_of names) (front_of a) ≡ false) where
  none_there : is_taken names a ≡ false
  none_there = on (is_taken names a) refl
    where
      on : (b : Bool) → is_taken names a ≡ b → b ≡ false
      on false e = refl
      on true e = absurd (let w : true ≡ false = sym (front_there names a e) ∙ outside in cc)

  -- a name in a package without kept classes stays
  outside_stays : class_given old stays names a ≡ a
  outside_stays = other_class_stays old stays names a none_there

  -- and no other name becomes it
  outside_differs : (b : List ℕ) → class_given old stays names a ≡ class_given old stays names b → a ≡ b
  outside_differs b same = on (is_taken names b) refl
    where
      on : (t : Bool) → is_taken names b ≡ t → a ≡ b
      on false e = sym outside_stays ∙ same ∙ other_class_stays old stays names b e
      on true e = absurd (
          let fronts : front_of a ≡ front_of b =
          ap front_of (sym outside_stays ∙ same) ∙ packages_stay old stays names b in
          let w : true ≡ false = sym (front_there names b e) ∙ ap (is_taken (map front_of names)) (sym fronts)
          ∙ outside in
          cc)

-- a name is taken or kept, or in a package without kept classes
abbrev Known : List (List ℕ) → List (List ℕ) → List ℕ → Type 0
Known taken names c = ((is_taken taken c ≡ true) ⊎ (is_taken names c ≡ true))
    ⊎ (is_taken (map front_of names) (front_of c) ≡ false)

module _ (old : NameTable) (stays names : List (List ℕ)) (a b : List ℕ)
    (same : class_given old stays names a ≡ class_given old stays names b) where
  known_differ : Known stays names a → Known stays names b → a ≡ b
  known_differ (inr out) h = outside_differs old stays names a out b same
  known_differ (inl is) (inr out) = sym (outside_differs old stays names b out a (sym same))
  known_differ (inl is) (inl then_is) = classes_differ old stays names a b is then_is same

-- ---- kept classes

module _ (taken : TakenNames) (old : Tables) (kept : List Class) (k : ℕ) (c : Class)
    (at : slice_get kept k ≡ Some c) where
  field_taken : AllByRecursion (λ (f : Field). is_taken (field_names kept) f.name ≡ true) c.fields
  field_taken = all_taken (λ (f : Field). f.name) (field_names kept) c.fields
      (in_kept (λ (c : Class). map (λ (f : Field). f.name) c.fields) kept k c at)

  -- the name of a method is among those of its descriptor
  abbrev Taken : Method → Type 0
  Taken m = is_taken (of_type (method_text m.ty) (method_names kept)) m.name ≡ true

  method_taken : AllByRecursion Taken c.methods
  method_taken = all_from Taken c.methods (λ j m there. method_among kept k c at j m there)

  pub told_apart : TypesAreKnown (is_known taken kept) c → TellsApart (names_given taken old kept) (is_known taken kept) c
  told_apart types = record {
    class = λ a b h then_h same.
        known_differ old.classes taken.classes (class_names kept) a b same
        (three (is_taken taken.classes a) (is_taken (class_names kept) a)
        (is_taken (map front_of (class_names kept)) (front_of a)) h)
        (three (is_taken taken.classes b) (is_taken (class_names kept) b)
        (is_taken (map front_of (class_names kept)) (front_of b)) then_h);
    types = types;
    fields =
        all_with (λ (f : Field). is_taken (field_names kept) f.name ≡ true)
        (λ (one other : Field). (names_given taken old kept).field one.name
        ≡ (names_given taken old kept).field other.name → one.name ≡ other.name)
        (λ x y h then_h same. fields_differ old.fields taken.fields (field_names kept) x.name y.name (inr h)
        (inr then_h) same)
        c.fields c.fields field_taken field_taken;
    methods =
        all_with Taken
        (λ (one other : Method). method_text one.ty ≡ method_text other.ty
        → (names_given taken old kept).method one.name (method_text one.ty)
        ≡ (names_given taken old kept).method other.name (method_text other.ty)
        → one.name ≡ other.name)
        (λ x y h then_h text same. methods_differ old.methods taken.methods (method_names kept) (method_text x.ty)
        x.name y.name (inr h)
        (inr (subst (λ (d : List ℕ). is_taken (of_type d (method_names kept)) y.name ≡ true) (sym text) then_h))
        (same ∙ ap (λ (d : List ℕ). (names_given taken old kept).method y.name d) (sym text)))
        c.methods c.methods method_taken method_taken;
  }

pub given_writable : GivenAreWritable
given_writable taken old kept k c has tell string at types w =
    let form = given_form taken old kept has tell string in
    let told = told_apart taken old kept k c at types in
    let apart = kept_apart (names_given taken old kept) form (is_known taken kept) c w.well_formed told in
    record {
      well_formed = formed (names_given taken old kept) form c apart w.well_formed;
      counts = counts_fit (names_given taken old kept) form c w.well_formed w.counts;
      value = class_valued (names_given taken old kept) form c w.well_formed w.value;
    }
