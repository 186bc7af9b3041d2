-- Names that are given in their order keep apart what is there.
use Rattle.std.proofs.Common.{◌≡◌, ◌⊎◌, inl, inr, ⊎_elim, ℕ, ◌-◌, ◌||◌, Bool, true, false, List}
use Rattle.std.proofs.Common.{[], ◌∷◌, length, map, take, Option, Some, None, slice_get, codes}
use Rattle.std.proofs.Common.{refl, sym, ap, subst, ◌∙◌}
use Rattle.std.specs.Prelude.{is_some}
use Rattle.std.specs.List.{position}
use Rattle.std.specs.Option.{option_map}
use Rattle.std.proofs.lemmas.List.Quantifiers.{position-Some}
use Rattle.std.proofs.lemmas.Option.{slice_get-map}
use Rattle.std.proofs.lemmas.Bool.{or_right}
use Rattle.jv_base.specs.Names.{is_member_name, is_text}
use Rattle.jv_base.specs.Types.{method_text}
use Rattle.jv_base.proofs.Equality.{text_itself, same_text}
use Rattle.jv_base.proofs.Lists.{any_at, placed}
use Rattle.lib_table.specs.Library.{LibraryClass, class, library}
use Rattle.lib_table.specs.Lookups as table
use Rattle.lib_table.specs.declared.class.LibKind.TheVariants.{Open}
use Rattle.class_model.specs.Flags.{is_init}
use Rattle.class_model.specs.WellFormed.{IsName}
use Rattle.class_model.specs.declared.class.Class.{Class}
use Rattle.class_model.specs.declared.class.Field.{Field}
use Rattle.class_model.specs.declared.class.Method.{Method}
use Rattle.class_pool.specs.Found.{MemberRow, NameAndType, package_of, rows_in}
use Rattle.class_pool.specs.Hierarchy.{or_found}
use Rattle.class_pool.specs.declared.id.ClassId.{ClassId}
use Rattle.class_pool.specs.declared.id.ClassId.TheVariants.{Prog, Lib}
use Rattle.image_laws.proofs.TakenSet.LibraryRows.{library_name}
use Rattle.image_laws.proofs.TakenSet.Members.{row_parts}
use Rattle.image_laws.proofs.ViewImage.Naming.{found_library}
use Rattle.class_rename.specs.Names.{Names, Tables, same_names}
use Rattle.fresh_names.specs.Fresh.{is_taken}
use Rattle.fresh_names.specs.Given.{NameTable, class_given, class_names, field_names, front_of, method_names, of_type}
use Rattle.fresh_names.specs.Given.{stays_for}
use Rattle.fresh_names.specs.Laws.{IsNamed}
use Rattle.fresh_names.specs.Reserved.{library_names, reserved}
use Rattle.fresh_names.specs.declared.taken.Named.TheVariants as named
use Rattle.fresh_names.proofs.Reserved.{taken_parts}
use Rattle.fresh_names.proofs.Tables.{classes_differ, fields_differ, fields_stay, methods_differ, methods_stay}
use Rattle.fresh_names.proofs.Tables.{packages_stay}
use Rattle.rename_map.specs.Fixed.{Stay}
use Rattle.rename_map.specs.Names.{given_beside}
use Rattle.pair_laws.specs.RenamedForm.Form.{KeepsForm}
use Rattle.pair_laws.specs.RenamedImage.Renaming.{IsMemberName, KeepsNamesApart, is_known}
use Rattle.pair_laws.proofs.RenamedImage.MemberNames.{library_name_taken, no_init}
use Rattle.pair_laws.proofs.RenamedImage.MemberNames.{program_row}
use Rattle.pair_laws.proofs.NamedForm.Fronts.{front_java, is_java}
use Rattle.pair_laws.proofs.NamedForm.Kept.{NoneJava, no_name}
use Rattle.pair_laws.proofs.RenamedForm.Given.{other_class_stays}
use Rattle.pair_laws.proofs.OwnLines.Fixed.{package_is}
use Rattle.pair_laws.proofs.RenamedForm.GivenWritable.{in_kept, method_among}

-- ---- lists

-- the name of an element is among all names
pub name_among : {A : Type 0} (name : A → List ℕ) (xs : List A) (k : ℕ) (x : A) → slice_get xs k ≡ Some x
    → is_taken (map name xs) (name x) ≡ true
name_among name xs k x at =
    any_at (is_text (name x)) (map name xs) k (name x) (slice_get-map name xs k ∙ ap (option_map name) at)
    (text_itself (name x))

-- ---- packages

-- it stays
pub package_stays : (old : NameTable) (stays names : List (List ℕ)) (a : List ℕ)
    → package_of (class_given old stays names a) ≡ package_of a
package_stays old stays names a =
    package_is (class_given old stays names a)
    ∙ ap (λ (front : List ℕ). take (length front - 1) front) (packages_stay old stays names a)
    ∙ sym (package_is a)

-- ---- names of classes

-- a name of the library's table is in a package of the library
library_java : (name : List ℕ) (id : ℕ) → table.class_named name ≡ Some id → is_java name ≡ true
library_java name id is =
    let within = position-Some (λ (c : LibraryClass). is_text c.name name) library id (class [] Open None [] []) is in
    ap is_java (sym (found_library name id is)) ∙ (library_name id within.0).0

module _ (classes : List Class) where
  -- a known name is one of the library, or of a class
  known_cases : (a : List ℕ) → is_known classes a ≡ true
      → (is_java a ≡ true) ⊎ (is_taken (class_names classes) a ≡ true)
  known_cases a h = by (is_java a) refl h
    where
      at : (o : Option ℕ) → position (λ (c : Class). is_text a c.name) classes ≡ o → (l : Option ℕ)
          → table.class_named a ≡ l → is_some (or_found o (option_map Lib l)) ≡ true
          → (is_java a ≡ true) ⊎ (is_taken (class_names classes) a ≡ true)
      at (Some k) e l f h =
          let found = placed (λ (c : Class). is_text a c.name) classes k e in
          inr (ap (is_taken (class_names classes)) (same_text a found.0.name found.2)
          ∙ name_among (λ (c : Class). c.name) classes k found.0 found.1)
      at None e (Some id) f h = inl (library_java a id f)
      at None e None f h = absurd cc

      by : (b : Bool) → is_java a ≡ b
          → (b || is_some (or_found (position (λ (c : Class). is_text a c.name) classes)
          (option_map Lib (table.class_named a)))) ≡ true
          → (is_java a ≡ true) ⊎ (is_taken (class_names classes) a ≡ true)
      by true e h = inl e
      by false e h = at (position (λ (c : Class). is_text a c.name) classes) refl (table.class_named a) refl h

-- ---- names that are given

-- fields of these have names of members
abbrev pub AreFieldNames : List Class → Type 0
AreFieldNames classes = (j : ℕ) (d : Class) → slice_get classes j ≡ Some d → (k : ℕ) (x : Field)
    → slice_get d.fields k ≡ Some x → IsName is_member_name x.name

module _ (stay : Stay) (old : Tables) (classes : List Class) (form : KeepsForm (given_beside stay old classes))
    (fields_reserved : (a : List ℕ) → is_taken (reserved named.Field) a ≡ true → is_taken stay.fields a ≡ true)
    (none : NoneJava classes) (good : AreFieldNames classes) where
  abbrev names : Names
  names = given_beside stay old classes

  library_class : (name : List ℕ) → is_java name ≡ true → names.class name ≡ name
  library_class name java =
      other_class_stays old.classes stay.classes (class_names classes) name (no_name classes name none java)

  -- no class is renamed to a name of the library
  not_java : (a b : List ℕ) → is_java a ≡ true → is_taken (class_names classes) b ≡ true
      → names.class a ≡ names.class b → ⊥
  not_java a b java there same =
      let front : front_of b ≡ front_of a =
      sym (packages_stay old.classes stay.classes (class_names classes) b)
      ∙ ap front_of (sym same ∙ library_class a java) in
      let w : true ≡ false = sym there ∙ no_name classes b none (front_java a b java front) in
      cc

  one_class : (a b : List ℕ) → is_known classes a ≡ true → is_known classes b ≡ true
      → names.class a ≡ names.class b → a ≡ b
  one_class a b h k same = by (known_cases classes a h) (known_cases classes b k)
    where
      by : (is_java a ≡ true) ⊎ (is_taken (class_names classes) a ≡ true)
          → (is_java b ≡ true) ⊎ (is_taken (class_names classes) b ≡ true) → a ≡ b
      by (inl x) (inl y) = sym (library_class a x) ∙ same ∙ library_class b y
      by (inl x) (inr y) = absurd (not_java a b x y same)
      by (inr x) (inl y) = absurd (not_java b a y x (sym same))
      by (inr x) (inr y) =
          classes_differ old.classes stay.classes (class_names classes) a b (inr x) (inr y) same

  library_field_stays : (id k : ℕ) (row : MemberRow) → slice_get (rows_in classes (Lib id)) k ≡ Some row
      → row.is_method ≡ false → is_taken stay.fields row.named.0 ≡ true
  library_field_stays id k row at kind =
      fields_reserved row.named.0
      (ap (λ (b : Bool). is_taken (library_names b) row.named.0) (sym kind) ∙ library_name_taken classes id k row at)

  -- reserved names of methods stay for each descriptor
  reserved_stays : (a d : List ℕ) → is_taken (reserved named.Method) a ≡ true
      → is_taken (stays_for stay.methods d) a ≡ true
  reserved_stays a d h =
      taken_parts (of_type d stay.methods) (reserved named.Method) a
      ∙ or_right (is_taken (of_type d stay.methods) a) (is_taken (reserved named.Method) a) h

  library_method_stays : (id k : ℕ) (row : MemberRow) → slice_get (rows_in classes (Lib id)) k ≡ Some row
      → row.is_method ≡ true → (d : List ℕ) → is_taken (stays_for stay.methods d) row.named.0 ≡ true
  library_method_stays id k row at kind d =
      reserved_stays row.named.0 d
      (taken_parts (codes "<init>" ∷ (codes "<clinit>" ∷ [])) (library_names true) row.named.0
      ∙ or_right (is_taken (codes "<init>" ∷ (codes "<clinit>" ∷ [])) row.named.0)
      (is_taken (library_names true) row.named.0)
      (ap (λ (b : Bool). is_taken (library_names b) row.named.0) (sym kind) ∙ library_name_taken classes id k row at))

  -- what holds of the name of each field, or what is of the library, holds of each name of fields
  by_field : (P : List ℕ → Type 0) → ((a : List ℕ) → is_taken stay.fields a ≡ true → P a)
      → ((j : ℕ) (d : Class) → slice_get classes j ≡ Some d → (k : ℕ) (x : Field) → slice_get d.fields k ≡ Some x
      → P x.name)
      → (a : NameAndType) → IsMemberName classes false a → P a.0
  by_field P fixed own a (inr h) = absurd (let w = h.0 in cc)
  by_field P fixed own a (inl h) =
      by h.class h.index h.row h.at h.kind (ap (λ (n : NameAndType). n.0) h.named_is)
    where
      by : (x : ClassId) (k : ℕ) (row : MemberRow) → slice_get (rows_in classes x) k ≡ Some row
          → row.is_method ≡ false → row.named.0 ≡ a.0 → P a.0
      by (Lib id) k row at kind name =
          subst P name (fixed row.named.0 (library_field_stays id k row at kind))
      by (Prog j) k row at kind name =
          let d = program_row classes k row j at in
          ⊎_elim
          (λ p. subst P (sym (ap (λ (r : MemberRow). r.named.0) p.2) ∙ name) (own j d.0 d.1 k p.0 p.1))
          (λ p. absurd (let w : true ≡ false = sym (ap (λ (r : MemberRow). r.is_method) p.4) ∙ kind in cc))
          (row_parts d.0.fields d.0.methods k row d.2)

  -- the same of methods with their descriptors
  by_method : (P : NameAndType → Type 0)
      → ((a d : List ℕ) → is_taken (stays_for stay.methods d) a ≡ true → P (a, d))
      → ((j : ℕ) (d : Class) → slice_get classes j ≡ Some d → (k : ℕ) (x : Method) → slice_get d.methods k ≡ Some x
      → P (x.name, method_text x.ty))
      → (a : NameAndType) → IsMemberName classes true a → P a
  by_method P fixed own a (inr h) =
      fixed a.0 a.1 (ap (is_taken (stays_for stay.methods a.1)) h.1 ∙ reserved_stays (codes "<clinit>") a.1 refl)
  by_method P fixed own a (inl h) = by h.class h.index h.row h.at h.kind h.named_is
    where
      by : (x : ClassId) (k : ℕ) (row : MemberRow) → slice_get (rows_in classes x) k ≡ Some row
          → row.is_method ≡ true → row.named ≡ a → P a
      by (Lib id) k row at kind named =
          subst P named (fixed row.named.0 row.named.1 (library_method_stays id k row at kind row.named.1))
      by (Prog j) k row at kind named =
          let d = program_row classes k row j at in
          ⊎_elim
          (λ p. absurd (let w : false ≡ true = sym (ap (λ (r : MemberRow). r.is_method) p.2) ∙ kind in cc))
          (λ p. subst P (sym (ap (λ (r : MemberRow). r.named) p.4) ∙ named) (own j d.0 d.1 p.0 p.1 p.3))
          (row_parts d.0.fields d.0.methods k row d.2)

  -- names of members stay, or get new names
  field_named : (a : NameAndType) → IsMemberName classes false a → IsNamed stay.fields (field_names classes) a.0
  field_named = by_field (IsNamed stay.fields (field_names classes)) (λ a h. inl h)
      (λ j d at k x there. inr (in_kept (λ (c : Class). map (λ (f : Field). f.name) c.fields) classes j d at x.name
      (name_among (λ (f : Field). f.name) d.fields k x there)))

  method_named : (a : NameAndType) → IsMemberName classes true a
      → IsNamed (stays_for stay.methods a.1) (of_type a.1 (method_names classes)) a.0
  method_named =
      by_method (λ (n : NameAndType). IsNamed (stays_for stay.methods n.1) (of_type n.1 (method_names classes)) n.0)
      (λ a d h. inl h)
      (λ j d at k x there. inr (method_among classes j d at k x there))

  init_of_fields : (a : NameAndType) → IsMemberName classes false a → is_init (names.field a.0) ≡ is_init a.0
  init_of_fields = by_field (λ a. is_init (names.field a) ≡ is_init a)
      (λ a h. ap is_init (fields_stay old.fields stay.fields (field_names classes) a h))
      (λ j d at k x there.
      let own = good j d at k x there in
      no_init (names.field x.name) (form.field_name x.name own).1 ∙ sym (no_init x.name own.1))

  pub given_apart : KeepsNamesApart (given_beside stay old classes) classes
  given_apart = record {
    library_class = library_class;
    class_name = form.class_name;
    one_class = one_class;
    packages = λ n c at. package_stays old.classes stay.classes (class_names classes) c.name;
    library_field = λ id k row at kind.
        fields_stay old.fields stay.fields (field_names classes) row.named.0 (library_field_stays id k row at kind);
    library_method = λ id k row at kind.
        methods_stay old.methods stay.methods (method_names classes) row.named.0 row.named.1
        (library_method_stays id k row at kind row.named.1);
    one_field = λ a b h k same.
        fields_differ old.fields stay.fields (field_names classes) a.0 b.0 (field_named a h) (field_named b k) same;
    one_method = λ a b d h k same.
        methods_differ old.methods stay.methods (method_names classes) d a b (method_named (a, d) h)
        (method_named (b, d) k) same;
    init_field = init_of_fields;
    init_method = λ a descriptor h. form.init a descriptor;
    clinit = λ d. methods_stay old.methods stay.methods (method_names classes) (codes "<clinit>") d
        (reserved_stays (codes "<clinit>") d refl);
  }

-- without obfuscation all names stay
pub same_apart : (classes : List Class) → KeepsNamesApart same_names classes
same_apart classes = record {
  library_class = λ name java. refl;
  class_name = λ name h. h;
  one_class = λ a b h k same. same;
  packages = λ n c at. refl;
  library_field = λ id k row at kind. refl;
  library_method = λ id k row at kind. refl;
  one_field = λ a b h k same. same;
  one_method = λ a b descriptor h k same. same;
  init_field = λ a h. refl;
  init_method = λ a descriptor h. refl;
  clinit = λ d. refl;
}
