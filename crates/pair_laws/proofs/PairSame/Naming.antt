-- The names that a pair's mapping gives keep apart all that is there: what the clauses MapShape, FixedName and Package
-- give.
use Rattle.std.proofs.Common.{◌≡◌, ◌⊎◌, inl, inr, ⊎_elim, ◌<◌, ℕ, zero, suc, ◌+◌, not, ◌||◌, ◌&&◌, Bool, true}
use Rattle.std.proofs.Common.{false}
use Rattle.std.proofs.Common.{cond, List, [], ◌∷◌, ◌++◌, length, map, Option, Some, None, slice_get, refl}
use Rattle.std.proofs.Common.{sym, ap}
use Rattle.std.proofs.Common.{subst, ◌∙◌, arith, codes}
use Rattle.std.specs.Prelude.{IfSome, IsTrue, is_some}
use Rattle.std.specs.List.{AllByRecursion, AllZip, flat_map, position, zip}
use Rattle.std.specs.Map.{lookup}
use Rattle.std.specs.Option.{option_and_then, option_map, option_map_or, option_or, unwrap_or}
use Rattle.std.proofs.lemmas.Bool.{and_parts, or_right, and_from, not-false}
use Rattle.std.proofs.lemmas.Option.{same_Some, slice_get-map}
use Rattle.jv_base.specs.Names.{is_class_name, is_text}
use Rattle.jv_base.specs.Types.{field_text, method_text}
use Rattle.jv_base.proofs.Lists.{all_append, all_at, all_from, all_mapped, all_weaker, placed, found_at}
use Rattle.jv_base.proofs.Options.{some_there}
use Rattle.jv_base.proofs.Equality.{text_itself, same_text}
use Rattle.lib_table.specs.Lookups as table
use Rattle.class_model.specs.Flags.{is_init, is_interface}
use Rattle.class_model.specs.WellFormed.{IsGoodField}
use Rattle.class_model.specs.declared.class.Class.{Class}
use Rattle.class_model.specs.declared.class.Field.{Field}
use Rattle.class_model.specs.declared.class.Method.{Method}
use Rattle.class_pool.specs.Found.{MemberRow, package_of, rows_in}
use Rattle.class_pool.specs.Hierarchy.{IsClass, class_named, or_found}
use Rattle.class_pool.specs.Items.{class_item}
use Rattle.class_pool.specs.Members.{declared_at, is_field, is_method, member_named, or_method}
use Rattle.class_pool.specs.declared.id.ClassId.{ClassId}
use Rattle.class_pool.specs.declared.id.ClassId.TheVariants.{Prog, Lib}
use Rattle.class_pool.proofs.Declaring.{named_there}
use Rattle.class_rename.specs.Names as class_rename
use Rattle.fresh_names.specs.Fresh.{is_taken}
use Rattle.fresh_names.specs.Given.{stays_for}
use Rattle.fresh_names.specs.Reserved.{library_names, reserved}
use Rattle.fresh_names.specs.declared.taken.Named.TheVariants as named
use Rattle.fresh_names.proofs.Reserved.{taken_parts}
use Rattle.keep_rules.specs.declared.rules.Rules.{Rules}
use Rattle.mapping_file.specs.declared.mapping.MapClass.{MapClass}
use Rattle.mapping_file.specs.declared.mapping.MapField.{MapField}
use Rattle.mapping_file.specs.declared.mapping.MapMethod.{MapMethod}
use Rattle.mapping_file.specs.declared.mapping.Mapping.{Mapping}
use Rattle.member_shrink.specs.Shrunk.{is_marked}
use Rattle.new_names.specs.NewNames.{NameAndType, class_line, field_in, field_lines, field_names, is_same, method_in}
use Rattle.new_names.specs.NewNames.{method_lines, names_given, new_class, new_field, new_method}
use Rattle.new_names.specs.declared.class_names.ClassNames.{ClassNames}
use Rattle.pair_clauses.specs.Finding.{first_place}
use Rattle.pair_clauses.specs.FixedNames.{Fixed, field_fault, fixed_by, fixed_in, is_misnamed, is_moved, is_renamed}
use Rattle.pair_clauses.specs.FixedNames.{method_fault, moved_in}
use Rattle.pair_clauses.specs.Places.{class_place, place_if, place_of_field, place_of_method}
use Rattle.pair_clauses.specs.Shape.{field_named, has_class, has_member, method_named, method_pairs, method_renamed}
use Rattle.pair_clauses.specs.Shape.{number_of}
use Rattle.pair_clauses.specs.declared.place.Place.{Place}
use Rattle.rename_map.specs.Fixed.{names_that_stay}
use Rattle.require_sys.proofs.Parts.{all_map}
use Rattle.image_laws.proofs.ShrunkImage.Kept.{as_filter}
use Rattle.image_laws.specs.TakenSet.TakenSet.{IsTaken}
use Rattle.image_laws.proofs.TakenSet.LibraryRows.{library_name}
use Rattle.image_laws.proofs.TakenSet.Members.{row_parts}
use Rattle.image_laws.proofs.TakenSet.Names.{library_named as library_class_named}
use Rattle.removal_laws.proofs.RemovalLinks.Places.{origin}
use Rattle.image_laws.proofs.ViewImage.Naming.{class_name}
use Rattle.pair_laws.specs.RenamedImage.Renaming.{IsMemberName, IsNewField, KeepsNamesApart}
use Rattle.pair_laws.specs.RenamedImage.Renaming.{is_known, is_library_name}
use Rattle.pair_laws.proofs.RenamedImage.Descriptors.{field_is_none, method_is_one}
use Rattle.pair_laws.proofs.RenamedImage.MemberNames.{library_name_taken, no_init}
use Rattle.pair_laws.proofs.RenamedImage.MemberNames.{program_row}
use Rattle.pair_laws.specs.RenamedImage.Renaming.{is_method_text}
use Rattle.pair_checker.specs.Clauses.{given_names}
use Rattle.pair_laws.specs.PairSame.Pairs.{IsPair}
use Rattle.pair_laws.proofs.PairSame.Expected.{GoodLine, all_good, becomes, field_found, fields_table, left}
use Rattle.pair_laws.proofs.PairSame.Expected.{line_of}
use Rattle.pair_laws.proofs.PairSame.Expected.{lined, method_found, methods_table, names, numbered_class}
use Rattle.pair_laws.proofs.PairSame.Expected.{place}
use Rattle.pair_laws.proofs.PairSame.Expected.{renamed, some_under, zip_given}
use Rattle.pair_laws.proofs.PairSame.Fixing as fixing
use Rattle.pair_laws.proofs.PairSame.Lined.{field_lined, method_lined}
use Rattle.pair_laws.proofs.PairSame.Lines.{first_none, no_place}
use Rattle.pair_laws.proofs.PairSame.Tables.{IsFound, all_method_pairs, by_old, looked, named_test, pairs_tell, text_test}

-- ---- lists

and_true : (b : Bool) → (b && true) ≡ b
and_true true = refl
and_true false = refl

all_first : {A : Type 0} (fault : A → Option Place) (xs : List A) → first_place fault xs ≡ None
    → AllByRecursion (λ x. fault x ≡ None) xs
all_first fault [] h = tt
all_first fault (x ∷ xs) h = let s = first_none (fault x) (first_place fault xs) h in (s.0, all_first fault xs s.1)

flat_from : {X Y : Type 0} (P : Y → Type 0) (g : X → List Y) (xs : List X)
    → AllByRecursion (λ x. AllByRecursion P (g x)) xs → AllByRecursion P (flat_map g xs)
flat_from P g [] h = tt
flat_from {X} {Y} P g (x ∷ xs) h = both (g x) h.0 (flat_from P g xs h.1)
  where
    both : (ys : List Y) → AllByRecursion P ys → AllByRecursion P (flat_map g xs)
        → AllByRecursion P (ys ++ flat_map g xs)
    both [] a b = b
    both (y ∷ ys) a b = (a.0, both ys a.1 b)

lookup_some : {K X : Type 0} (test : K → Bool) (xs : List (K × X)) (k : ℕ) (e : K × X) → slice_get xs k ≡ Some e
    → test e.0 ≡ true → is_some (lookup test xs) ≡ true
lookup_some test [] k e at h = absurd cc
lookup_some test (x ∷ xs) zero e at h =
    ap (λ (b : Bool). is_some (cond b (Some x.1) (lookup test xs)))
    (ap (λ p. test p.0) (same_Some x e at) ∙ h)
lookup_some test (x ∷ xs) (suc k) e at h = by (test x.0) (lookup_some test xs k e at h)
  where
    by : (b : Bool) → is_some (lookup test xs) ≡ true → is_some (cond b (Some x.1) (lookup test xs)) ≡ true
    by true r = refl
    by false r = r

pub zip_at : {A B : Type 0} (R : A → B → Type 0) (xs : List A) (ys : List B) (k : ℕ) (x : A) → AllZip R xs ys
    → slice_get xs k ≡ Some x → (y : B) × (slice_get ys k ≡ Some y) × R x y
zip_at R [] ys k x z e = absurd cc
zip_at R (a ∷ xs) [] k x z e = absurd z
zip_at R (a ∷ xs) (b ∷ ys) zero x z e = (b, refl, subst (λ t. R t b) (same_Some a x e) z.0)
zip_at R (a ∷ xs) (b ∷ ys) (suc k) x z e = zip_at R xs ys k x z.1 e

-- ---- names in packages of the library

-- no class of a set that is taken has one
no_library_class : (classes : List Class) → IsTaken classes → (name : List ℕ) → is_library_name name ≡ true
    → has_class classes name ≡ true → ⊥
no_library_class classes taken name java h = by (number_of classes name) refl h
  where
    none : (n : ℕ) (o : Option ℕ) → Some (Prog n) ≡ option_map Lib o → ⊥
    none n None e = cc
    none n (Some id) e = let q : Prog n ≡ Lib id = cc in cc

    by : (o : Option ℕ) → number_of classes name ≡ o → is_some o ≡ true → ⊥
    by None e h = cc
    by (Some n) e h = none n (table.class_named name)
        (sym (ap (λ x. or_found x (option_map Lib (table.class_named name))) e)
        ∙ library_class_named classes taken name java)

module _ (input output : List Class) (mapping : Mapping) (rules : Rules) (taken : IsTaken input)
    (then_taken : IsTaken output) (pair : IsPair input output mapping rules) where
  abbrev fixed : Fixed
  fixed = fixed_by rules input

  abbrev rest : List Class
  rest = left input output mapping rules taken pair

  abbrev new_names : class_rename.Names
  new_names = names input output mapping rules taken pair

  -- ---- fixed names

  field_fixed : (a : List ℕ) → is_taken (library_names false) a ≡ true → fixed.field a ≡ true
  field_fixed a h = or_right (not rules.obfuscate) (is_taken (names_that_stay rules input).fields a)
      (taken_parts _ (reserved named.Field) a ∙ or_right _ (is_taken (library_names false) a) h)

  method_fixed : (d a : List ℕ) → is_taken (reserved named.Method) a ≡ true → fixed.method d a ≡ true
  method_fixed d a h =
      or_right (not rules.obfuscate) (is_taken (stays_for (names_that_stay rules input).methods d) a)
      (taken_parts _ (reserved named.Method) a ∙ or_right _ (is_taken (reserved named.Method) a) h)

  library_method_fixed : (d a : List ℕ) → is_taken (library_names true) a ≡ true → fixed.method d a ≡ true
  library_method_fixed d a h = method_fixed d a
      (taken_parts (codes "<init>" ∷ (codes "<clinit>" ∷ [])) (library_names true) a
      ∙ or_right _ (is_taken (library_names true) a) h)

  -- ---- members that have lines aren't misnamed

  fixed_at : (n : ℕ) (c : Class) → slice_get input n ≡ Some c
      → (first_place (field_fault fixed.field c) (zip c.fields (map (new_field mapping c) c.fields)) ≡ None)
      × (first_place (method_fault fixed.method c) (zip c.methods (map (new_method mapping c) c.methods)) ≡ None)
  fixed_at n c at =
      let here = all_at (λ (c : Class). fixed_in fixed (c, names_given mapping c) ≡ None) input n c
      (zip_given (λ (p : Class × ClassNames). fixed_in fixed p ≡ None) (names_given mapping) input
      (all_first (fixed_in fixed) (zip input (given_names mapping input)) (sym pair.fixed))) at in
      let members = first_none (place_if (is_renamed fixed.class c.name (new_class mapping c.name))
      (class_place c.name))
      (option_or (first_place (field_fault fixed.field c) (zip c.fields (map (new_field mapping c) c.fields)))
      (first_place (method_fault fixed.method c) (zip c.methods (map (new_method mapping c) c.methods)))) here in
      first_none (first_place (field_fault fixed.field c) (zip c.fields (map (new_field mapping c) c.fields)))
      (first_place (method_fault fixed.method c) (zip c.methods (map (new_method mapping c) c.methods))) members.1

  field_right : (n : ℕ) (c : Class) → slice_get input n ≡ Some c → (k : ℕ) (x : Field) → slice_get c.fields k ≡ Some x
      → (new : List ℕ) → new_field mapping c x ≡ Some new → is_misnamed fixed.field x.name new ≡ false
  field_right n c at k x there new is =
      let one = all_at (λ (x : Field). field_fault fixed.field c (x, new_field mapping c x) ≡ None) c.fields k x
      (zip_given (λ (p : Field × Option (List ℕ)). field_fault fixed.field c p ≡ None) (new_field mapping c) c.fields
      (all_first (field_fault fixed.field c) (zip c.fields (map (new_field mapping c) c.fields))
      (fixed_at n c at).0)) there in
      sym (ap (is_renamed fixed.field x.name) is)
      ∙ no_place (is_renamed fixed.field x.name (new_field mapping c x)) (place_of_field c x) one

  method_right : (n : ℕ) (c : Class) → slice_get input n ≡ Some c → (k : ℕ) (x : Method)
      → slice_get c.methods k ≡ Some x → (new : List ℕ) → new_method mapping c x ≡ Some new
      → is_misnamed (fixed.method (method_text x.ty)) x.name new ≡ false
  method_right n c at k x there new is =
      let one = all_at (λ (x : Method). method_fault fixed.method c (x, new_method mapping c x) ≡ None) c.methods k x
      (zip_given (λ (p : Method × Option (List ℕ)). method_fault fixed.method c p ≡ None)
      (new_method mapping c) c.methods
      (all_first (method_fault fixed.method c) (zip c.methods (map (new_method mapping c) c.methods))
      (fixed_at n c at).1)) there in
      sym (ap (is_renamed (fixed.method (method_text x.ty)) x.name) is)
      ∙ no_place (is_renamed (fixed.method (method_text x.ty)) x.name (new_method mapping c x)) (place_of_method c x)
      one

  -- the member that a line names
  declared_of : (l : MapClass) → GoodLine input output mapping rules taken pair l → (named : NameAndType)
      → has_member input l.old named ≡ true
      → (n : ℕ) × (c : Class) × (slice_get input n ≡ Some c) × (c.name ≡ l.old)
      × (is_some (member_named c named.0 named.1) ≡ true)
  declared_of l good named h =
      let n = some_there (number_of input l.old) good.line.in_input in
      let c = numbered_class input l.old n.0 n.1 in
      let has : is_some (declared_at input (Prog n.0) named.0 named.1) ≡ true =
      sym (ap (λ o. option_map_or (λ n. is_some (declared_at input (Prog n) named.0 named.1)) o false) n.1) ∙ h in (
        n.0,
        c.0,
        c.1,
        c.2,
        sym (ap (λ o. is_some (option_and_then (λ c. member_named c named.0 named.1) o)) c.1) ∙ has,
      )

  texts_differ : (a b : List ℕ) → is_method_text a ≡ false → is_method_text b ≡ true → a ≡ b → ⊥
  texts_differ a b h k e = let w : false ≡ true = sym h ∙ ap is_method_text e ∙ k in cc

  field_line_right : (l : MapClass) → GoodLine input output mapping rules taken pair l → (k : ℕ) (m : MapField)
      → slice_get l.fields k ≡ Some m → is_misnamed fixed.field m.old m.new ≡ false
  field_line_right l good k m at =
      let has = all_at (λ (x : MapField). has_member input l.old
      (field_named x) ≡ true) l.fields k m good.line.fields at in
      let d = declared_of l good (field_named m) has in
      by d.0 d.1 d.2 d.3 (position (is_field m.old (field_text m.ty)) d.1.fields) refl d.4
    where
      by : (n : ℕ) (c : Class) → slice_get input n ≡ Some c → c.name ≡ l.old → (o : Option ℕ)
          → position (is_field m.old (field_text m.ty)) c.fields ≡ o
          → is_some (or_method c m.old (field_text m.ty) o) ≡ true → is_misnamed fixed.field m.old m.new ≡ false
      by n c there name None e h = absurd
          (let j = some_under (λ n. length c.fields + n) (position (is_method m.old (field_text m.ty)) c.methods) h in
          let y = placed (is_method m.old (field_text m.ty)) c.methods j.0 j.1 in
          let parts = and_parts (is_text y.0.name m.old) (is_text (field_text m.ty) (method_text y.0.ty)) y.2 in
          texts_differ (field_text m.ty) (method_text y.0.ty) (field_is_none m.ty) (method_is_one y.0.ty)
          (same_text (field_text m.ty) (method_text y.0.ty) parts.1))
      by n c there name (Some j) e h =
          let x = placed (is_field m.old (field_text m.ty)) c.fields j e in
          let parts = and_parts (is_text x.0.name m.old) (is_text (field_text m.ty) (field_text x.0.ty)) x.2 in
          let same = same_text x.0.name m.old parts.0 in
          let text = same_text (field_text m.ty) (field_text x.0.ty) parts.1 in
          let class : class_line mapping c.name ≡ Some l = ap (class_line mapping) name ∙ good.line.old in
          let test = λ (key : NameAndType). is_same key (x.0.name, field_text x.0.ty) in
          let passes : test (m.old, field_text m.ty) ≡ true =
          and_from (is_text m.old x.0.name) (is_text (field_text m.ty) (field_text x.0.ty))
          (ap (is_text m.old) same ∙ text_itself m.old) parts.1 in
          let new = some_there (field_in l x.0) (lookup_some test (field_lines l.fields) k
          ((m.old, field_text m.ty), m.new)
          (slice_get-map (λ (y : MapField). ((y.old, field_text y.ty), y.new)) l.fields k
          ∙ ap (option_map (λ (y : MapField). ((y.old, field_text y.ty), y.new))) at) passes) in
          let given : new_field mapping c x.0 ≡ Some new.0 = ap (option_and_then (λ l. field_in l x.0)) class ∙ new.1 in
          let found = field_found input output mapping rules taken pair c x.0 new.0 given in
          let own = all_at (λ (y : MapField). IsFound is_text (fields_table input output mapping rules taken pair)
          (y.old, y.new))
          l.fields k m (all_map (IsFound is_text (fields_table input output mapping rules taken pair))
          (λ (y : MapField). (y.old, y.new)) l.fields good.fields) at in
          let one : new.0 ≡ m.new = same_Some new.0 m.new (sym found.old
          ∙ ap (by_old is_text (fields_table input output mapping rules taken pair)) same ∙ own.old) in
          subst (λ (t : List ℕ). is_misnamed fixed.field m.old t ≡ false) one
          (subst (λ (t : List ℕ). is_misnamed fixed.field t new.0 ≡ false) same
          (field_right n c there j x.0 x.1 new.0 given))

  method_line_right : (l : MapClass) → GoodLine input output mapping rules taken pair l → (k : ℕ) (m : MapMethod)
      → slice_get l.methods k ≡ Some m → is_misnamed (fixed.method (method_text m.ty)) m.old m.new ≡ false
  method_line_right l good k m at =
      let has = all_at (λ (x : MapMethod). has_member input l.old (method_named x) ≡ true) l.methods k m
      good.line.methods at in
      let d = declared_of l good (method_named m) has in
      by d.0 d.1 d.2 d.3 (position (is_field m.old (method_text m.ty)) d.1.fields) refl d.4
    where
      by : (n : ℕ) (c : Class) → slice_get input n ≡ Some c → c.name ≡ l.old → (o : Option ℕ)
          → position (is_field m.old (method_text m.ty)) c.fields ≡ o
          → is_some (or_method c m.old (method_text m.ty) o) ≡ true → is_misnamed (fixed.method (method_text m.ty)) m.old m.new ≡ false
      by n c there name (Some j) e h = absurd
          (let x = placed (is_field m.old (method_text m.ty)) c.fields j e in
          let parts = and_parts (is_text x.0.name m.old) (is_text (method_text m.ty) (field_text x.0.ty)) x.2 in
          texts_differ (field_text x.0.ty) (method_text m.ty) (field_is_none x.0.ty) (method_is_one m.ty)
          (sym (same_text (method_text m.ty) (field_text x.0.ty) parts.1)))
      by n c there name None e h =
          let j = some_under (λ n. length c.fields + n) (position (is_method m.old (method_text m.ty)) c.methods) h in
          let x = placed (is_method m.old (method_text m.ty)) c.methods j.0 j.1 in
          let parts = and_parts (is_text x.0.name m.old) (is_text (method_text m.ty) (method_text x.0.ty)) x.2 in
          let same = same_text x.0.name m.old parts.0 in
          let class : class_line mapping c.name ≡ Some l = ap (class_line mapping) name ∙ good.line.old in
          let test = λ (key : NameAndType). is_same key (x.0.name, method_text x.0.ty) in
          let passes : test (m.old, method_text m.ty) ≡ true =
          and_from (is_text m.old x.0.name) (is_text (method_text m.ty) (method_text x.0.ty))
          (ap (is_text m.old) same ∙ text_itself m.old) parts.1 in
          let new = some_there (method_in l x.0) (lookup_some test (method_lines l.methods) k
          ((m.old, method_text m.ty), m.new)
          (slice_get-map (λ (y : MapMethod). ((y.old, method_text y.ty), y.new)) l.methods k
          ∙ ap (option_map (λ (y : MapMethod). ((y.old, method_text y.ty), y.new))) at) passes) in
          let given : new_method mapping c x.0 ≡ Some new.0 = ap (option_and_then (λ l. method_in l x.0)) class
          ∙ new.1 in
          let text : method_text m.ty ≡ method_text x.0.ty = same_text (method_text m.ty) (method_text x.0.ty) parts.1 in
          let key : (let n : NameAndType = (x.0.name, method_text x.0.ty) in n) ≡ method_named m =
          λ i. (same i, sym text i) in
          let found = method_found input output mapping rules taken pair c x.0 new.0 given in
          let own = all_at
          (λ (y : MapMethod). IsFound is_same (methods_table input output mapping rules taken pair)
          (method_named y, method_renamed y))
          l.methods k m (all_map (IsFound is_same (methods_table input output mapping rules taken pair))
          (λ (y : MapMethod). (method_named y, method_renamed y)) l.methods good.methods) at in
          let both : (let n : NameAndType = (new.0, method_text x.0.ty) in n) ≡ method_renamed m =
          same_Some (new.0, method_text x.0.ty) (method_renamed m) (sym found.old
          ∙ ap (by_old is_same (methods_table input output mapping rules taken pair)) key ∙ own.old) in
          let one : new.0 ≡ m.new = ap (λ (n : NameAndType). n.0) both in
          subst (λ (t : List ℕ). is_misnamed (fixed.method (method_text m.ty)) m.old t ≡ false) one
          (subst (λ (n : NameAndType). is_misnamed (fixed.method n.1) n.0 new.0 ≡ false) key
          (method_right n c there j.0 x.0 x.1 new.0 given))

  abbrev FieldRight : List ℕ × List ℕ → Type 0
  FieldRight p = is_misnamed fixed.field p.0 p.1 ≡ false

  -- a method's name with its descriptor is fixed
  abbrev fixed_named : NameAndType → Bool
  fixed_named n = fixed.method n.1 n.0

  abbrev MethodRight : NameAndType × NameAndType → Type 0
  MethodRight p = fixing.is_wrong is_same fixed_named p.0 p.1 ≡ false

  -- a name that isn't misnamed isn't so with its descriptor
  right_named : (old new d : List ℕ) → is_misnamed (fixed.method d) old new ≡ false → MethodRight ((old, d), (new, d))
  right_named old new d h =
      ap (λ (b : Bool). cond (fixed.method d old) (not b) (fixed.method d new))
      (ap (λ (b : Bool). is_text old new && b) (text_itself d) ∙ and_true (is_text old new)) ∙ h

  fields_right : AllByRecursion FieldRight (fields_table input output mapping rules taken pair)
  fields_right =
      flat_from FieldRight (λ (l : MapClass). field_names l.fields) mapping.classes
      (all_weaker (GoodLine input output mapping rules taken pair)
      (λ (l : MapClass). AllByRecursion FieldRight (field_names l.fields))
      (λ l good. all_mapped FieldRight (λ (m : MapField). (m.old, m.new)) l.fields
      (all_from (λ (m : MapField). FieldRight (m.old, m.new)) l.fields (field_line_right l good))) mapping.classes
      (all_good input output mapping rules taken pair))

  methods_right : AllByRecursion MethodRight (methods_table input output mapping rules taken pair)
  methods_right =
      flat_from MethodRight (λ (l : MapClass). method_pairs l.methods) mapping.classes
      (all_weaker (GoodLine input output mapping rules taken pair)
      (λ (l : MapClass). AllByRecursion MethodRight (method_pairs l.methods))
      (λ l good. all_mapped MethodRight (λ (m : MapMethod). (method_named m, method_renamed m)) l.methods
      (all_from (λ (m : MapMethod). MethodRight (method_named m, method_renamed m)) l.methods
      (λ k m at. right_named m.old m.new (method_text m.ty) (method_line_right l good k m at)))) mapping.classes
      (all_good input output mapping rules taken pair))

  -- ---- names of methods, with their descriptors

  abbrev Keeps : NameAndType × NameAndType → Type 0
  Keeps p = p.1.1 ≡ p.0.1

  own_keep : (ms : List MapMethod) → AllByRecursion Keeps (method_pairs ms)
  own_keep [] = tt
  own_keep (m ∷ ms) = (refl, own_keep ms)

  -- a pair has one descriptor
  all_keep : (lines : List MapClass) → AllByRecursion Keeps (all_method_pairs lines)
  all_keep [] = tt
  all_keep (l ∷ lines) = all_append Keeps (method_pairs l.methods) (all_method_pairs lines) (own_keep l.methods)
      (all_keep lines)

  abbrev new_named : NameAndType → NameAndType
  new_named = fixing.new_of is_same named_test (methods_table input output mapping rules taken pair) fixed_named
      methods_right

  -- so a method keeps its descriptor in the table
  descriptor_stays : (n : NameAndType) → (new_named n).1 ≡ n.1
  descriptor_stays n = by (by_old is_same (methods_table input output mapping rules taken pair) n) refl
    where
      by : (o : Option NameAndType) → by_old is_same (methods_table input output mapping rules taken pair) n ≡ o
          → (unwrap_or o n).1 ≡ n.1
      by None e = refl
      by (Some new) e =
          let h = looked Keeps (λ name. is_same name n) (methods_table input output mapping rules taken pair) new
          (all_keep mapping.classes) e in
          h.holds ∙ ap (λ (k : NameAndType). k.1) (named_test.one h.key n h.passes)

  method_is : (a d : List ℕ) → new_names.method a d ≡ (new_named (a, d)).0
  method_is a d = pairs_tell mapping.classes (a, d)

  -- one new name with one descriptor
  named_same : (a b d : List ℕ) → new_names.method a d ≡ new_names.method b d → new_named (a, d) ≡ new_named (b, d)
  named_same a b d e =
      let name = sym (method_is a d) ∙ e ∙ method_is b d in
      let text = descriptor_stays (a, d) ∙ sym (descriptor_stays (b, d)) in
      λ i. (name i, text i)

  init_same : (a d : List ℕ) → is_same (new_named (a, d)) (codes "<init>", d) ≡ is_same (a, d) (codes "<init>", d)
      → is_init (new_names.method a d) ≡ is_init a
  init_same a d h =
      ap is_init (method_is a d)
      ∙ sym (ap (λ (b : Bool). is_init (new_named (a, d)).0 && b)
      (ap (λ (t : List ℕ). is_text t d) (descriptor_stays (a, d)) ∙ text_itself d)
      ∙ and_true (is_init (new_named (a, d)).0))
      ∙ h ∙ ap (λ (b : Bool). is_init a && b) (text_itself d) ∙ and_true (is_init a)

  -- ---- members that are there are fixed, or have new names

  abbrev FieldGiven : List ℕ → Type 0
  FieldGiven a = fixing.IsGiven is_text text_test (fields_table input output mapping rules taken pair) fixed.field
      fields_right a

  abbrev MethodGiven : NameAndType → Type 0
  MethodGiven n = fixing.IsGiven is_same named_test (methods_table input output mapping rules taken pair) fixed_named
      methods_right n

  field_of_left : (j : ℕ) (d : Class) → slice_get rest j ≡ Some d → (k : ℕ) (x : Field) → slice_get d.fields k ≡ Some x
      → FieldGiven x.name
  field_of_left j d at k x there =
      let b = becomes input output mapping rules taken pair j d at in
      let first = class_item input b.n + 1 in
      let marks = lined input output mapping rules taken pair in
      let o = origin (is_marked marks) (λ k y. y) first b.class.fields k x
      (ap (λ (t : List Field). slice_get t k) (sym (as_filter (is_marked marks) (λ k y. y) first b.class.fields))
      ∙ ap (λ (y : Class). slice_get y.fields k) (sym b.is) ∙ there) in
      let here : slice_get b.class.fields o.k ≡ Some x = o.at ∙ ap (λ (z : Field). Some z) (sym o.is) in
      let new = some_there (new_field mapping b.class x)
      (sym (field_lined mapping input b.n b.class b.there o.k x here) ∙ o.passes) in
      inr (new.0, field_found input output mapping rules taken pair b.class x new.0 new.1)

  method_of_left : (j : ℕ) (d : Class) → slice_get rest j ≡ Some d → (k : ℕ) (x : Method)
      → slice_get d.methods k ≡ Some x → MethodGiven (x.name, method_text x.ty)
  method_of_left j d at k x there =
      let b = becomes input output mapping rules taken pair j d at in
      let first = class_item input b.n + 1 + length b.class.fields in
      let marks = lined input output mapping rules taken pair in
      let o = origin (is_marked marks) (λ k y. y) first b.class.methods k x
      (ap (λ (t : List Method). slice_get t k) (sym (as_filter (is_marked marks) (λ k y. y) first b.class.methods))
      ∙ ap (λ (y : Class). slice_get y.methods k) (sym b.is) ∙ there) in
      let here : slice_get b.class.methods o.k ≡ Some x = o.at ∙ ap (λ (z : Method). Some z) (sym o.is) in
      let item : class_item input b.n + 1 + (length b.class.fields + o.k)
      ≡ class_item input b.n + 1 + length b.class.fields + o.k = omega arith in
      let new = some_there (new_method mapping b.class x)
      (sym (method_lined mapping input b.n b.class b.there o.k x here) ∙ ap (is_marked marks) item ∙ o.passes) in
      inr ((new.0, method_text x.ty), method_found input output mapping rules taken pair b.class x new.0 new.1)

  field_given : (n : NameAndType) → IsMemberName rest false n → FieldGiven n.0
  field_given n (inr h) = absurd (let w = h.0 in cc)
  field_given n (inl h) = by h.class h.index h.row h.at h.kind (ap (λ (n : NameAndType). n.0) h.named_is)
    where
      by : (x : ClassId) (k : ℕ) (row : MemberRow) → slice_get (rows_in rest x) k ≡ Some row → row.is_method ≡ false
          → row.named.0 ≡ n.0 → FieldGiven n.0
      by (Lib id) k row at kind name = inl (field_fixed n.0
          (ap (is_taken (library_names false)) (sym name)
          ∙ ap (λ (b : Bool). is_taken (library_names b) row.named.0) (sym kind) ∙ library_name_taken rest id k row at))
      by (Prog j) k row at kind name =
          let d = program_row rest k row j at in
          ⊎_elim
          (λ p. subst FieldGiven (sym (ap (λ (r : MemberRow). r.named.0) p.2) ∙ name)
          (field_of_left j d.0 d.1 k p.0 p.1))
          (λ p. absurd (let w : true ≡ false = sym (ap (λ (r : MemberRow). r.is_method) p.4) ∙ kind in cc))
          (row_parts d.0.fields d.0.methods k row d.2)

  method_given : (n : NameAndType) → IsMemberName rest true n → MethodGiven n
  method_given n (inr h) = inl (ap (fixed.method n.1) h.1 ∙ method_fixed n.1 (codes "<clinit>") refl)
  method_given n (inl h) = by h.class h.index h.row h.at h.kind h.named_is
    where
      by : (x : ClassId) (k : ℕ) (row : MemberRow) → slice_get (rows_in rest x) k ≡ Some row → row.is_method ≡ true
          → row.named ≡ n → MethodGiven n
      by (Lib id) k row at kind named = inl (library_method_fixed n.1 n.0
          (ap (λ (m : NameAndType). is_taken (library_names true) m.0) (sym named)
          ∙ ap (λ (b : Bool). is_taken (library_names b) row.named.0) (sym kind) ∙ library_name_taken rest id k row at))
      by (Prog j) k row at kind named =
          let d = program_row rest k row j at in
          ⊎_elim
          (λ p. absurd (let w : false ≡ true = sym (ap (λ (r : MemberRow). r.is_method) p.2) ∙ kind in cc))
          (λ p. subst MethodGiven (sym (ap (λ (r : MemberRow). r.named) p.4) ∙ named)
          (method_of_left j d.0 d.1 p.0 p.1 p.3))
          (row_parts d.0.fields d.0.methods k row d.2)

  -- ---- initialisation methods

  init_of_fields : (n : NameAndType) → IsMemberName rest false n → is_init (new_names.field n.0) ≡ is_init n.0
  init_of_fields n (inr h) = absurd (let w = h.0 in cc)
  init_of_fields n (inl h) = by h.class h.index h.row h.at h.kind (ap (λ (n : NameAndType). n.0) h.named_is)
    where
      good : (j : ℕ) (d : Class) → slice_get rest j ≡ Some d → (k : ℕ) (x : Field) → slice_get d.fields k ≡ Some x
          → is_init (new_names.field x.name) ≡ is_init x.name
      good j d at k x there =
          let b = becomes input output mapping rules taken pair j d at in
          let first = class_item input b.n + 1 in
          let marks = lined input output mapping rules taken pair in
          let o = origin (is_marked marks) (λ k y. y) first b.class.fields k x
          (ap (λ (t : List Field). slice_get t k) (sym (as_filter (is_marked marks) (λ k y. y) first b.class.fields))
          ∙ ap (λ (y : Class). slice_get y.fields k) (sym b.is) ∙ there) in
          let here : slice_get b.class.fields o.k ≡ Some x = o.at ∙ ap (λ (z : Field). Some z) (sym o.is) in
          let old = all_at (IsGoodField (is_interface b.class.flags.0)) b.class.fields o.k x
          (taken.formed b.n b.class b.there).fields here in
          let r = renamed input output mapping rules taken pair j d at in
          let y = zip_at (IsNewField new_names) d.fields r.0.fields k x r.2.fields there in
          let new = all_at (IsGoodField (is_interface r.0.flags.0)) r.0.fields k y.0
          (then_taken.formed (place input output mapping rules taken pair j) r.0 r.1).fields y.1 in
          ap is_init (sym y.2.name) ∙ no_init y.0.name new.name.1 ∙ sym (no_init x.name old.name.1)

      by : (x : ClassId) (k : ℕ) (row : MemberRow) → slice_get (rows_in rest x) k ≡ Some row → row.is_method ≡ false
          → row.named.0 ≡ n.0 → is_init (new_names.field n.0) ≡ is_init n.0
      by (Lib id) k row at kind name =
          ap is_init (fixing.fixed_stays is_text text_test (fields_table input output mapping rules taken pair) fixed.field
          fields_right n.0
          (field_fixed n.0 (ap (is_taken (library_names false)) (sym name)
          ∙ ap (λ (b : Bool). is_taken (library_names b) row.named.0) (sym kind)
          ∙ library_name_taken rest id k row at)))
      by (Prog j) k row at kind name =
          let d = program_row rest k row j at in
          ⊎_elim
          (λ p. subst (λ (t : List ℕ). is_init (new_names.field t) ≡ is_init t)
          (sym (ap (λ (r : MemberRow). r.named.0) p.2) ∙ name) (good j d.0 d.1 k p.0 p.1))
          (λ p. absurd (let w : true ≡ false = sym (ap (λ (r : MemberRow). r.is_method) p.4) ∙ kind in cc))
          (row_parts d.0.fields d.0.methods k row d.2)

  -- ---- classes

  library_class : (name : List ℕ) → is_library_name name ≡ true → new_names.class name ≡ name
  library_class name java = by (class_line mapping name) refl
    where
      by : (o : Option MapClass) → class_line mapping name ≡ o
          → unwrap_or (option_map (λ (l : MapClass). l.new) o) name ≡ name
      by None e = refl
      by (Some l) e =
          let g = line_of input output mapping rules taken pair name l e in
          absurd (no_library_class input taken name java
          (ap (has_class input) (sym g.1) ∙ g.0.line.in_input))

  class_formed : (name : List ℕ) → IsTrue (is_class_name name) → IsTrue (is_class_name (new_names.class name))
  class_formed name h = by (class_line mapping name) refl
    where
      by : (o : Option MapClass) → class_line mapping name ≡ o
          → IsTrue (is_class_name (unwrap_or (option_map (λ (l : MapClass). l.new) o) name))
      by None e = h
      by (Some l) e =
          let g = line_of input output mapping rules taken pair name l e in
          let n = some_there (number_of output l.new) g.0.line.in_output in
          let c = numbered_class output l.new n.0 n.1 in
          subst (λ (t : List ℕ). IsTrue (is_class_name t)) c.2 (then_taken.formed n.0 c.0 c.1).name.1

  -- a known name is one of the library, or has a line
  abbrev ClassGiven : List ℕ → Type 0
  ClassGiven a = (is_library_name a ≡ true) ⊎ ((l : MapClass) × (class_line mapping a ≡ Some l))

  class_given : (a : List ℕ) → is_known rest a ≡ true → ClassGiven a
  class_given a h = by (is_library_name a) refl h
    where
      at : (o : Option ClassId) → class_named rest a ≡ o → is_library_name a ≡ false → is_some o ≡ true → ClassGiven a
      at None e java h = absurd cc
      at (Some (Lib id)) e java h =
          let within = subst (λ o. IfSome o (IsClass rest)) e (named_there rest a) in
          inl (ap is_library_name (sym (class_name rest a (Lib id) e)) ∙ (library_name id within).0)
      at (Some (Prog j)) e java h =
          let low : j < length rest = subst (λ o. IfSome o (IsClass rest)) e (named_there rest a) in
          let d = found_at rest j low in
          let b = becomes input output mapping rules taken pair j d.0 d.1 in
          let own : d.0.name ≡ a =
          sym (ap (λ o. option_map_or (λ (c : Class). c.name) o []) d.1) ∙ class_name rest a (Prog j) e in
          let name : b.class.name ≡ a = sym (ap (λ (c : Class). c.name) b.is) ∙ own in
          inr (b.new.line, ap (class_line mapping) (sym name) ∙ b.new.line_is)

      by : (t : Bool) → is_library_name a ≡ t → (t || is_some (class_named rest a)) ≡ true → ClassGiven a
      by true e h = inl e
      by false e h = at (class_named rest a) refl e h

  one_class : (a b : List ℕ) → is_known rest a ≡ true → is_known rest b ≡ true
      → new_names.class a ≡ new_names.class b → a ≡ b
  one_class a b h k e = by (class_given a h) (class_given b k)
    where
      new_of_line : (a : List ℕ) (l : MapClass) → class_line mapping a ≡ Some l → new_names.class a ≡ l.new
      new_of_line a l e = ap (λ o. unwrap_or (option_map (λ (l : MapClass). l.new) o) a) e

      apart : (a b : List ℕ) (l : MapClass) → is_library_name a ≡ true → class_line mapping b ≡ Some l → a ≡ l.new → ⊥
      apart a b l java e same =
          let g = line_of input output mapping rules taken pair b l e in
          no_library_class output then_taken a java (ap (has_class output) same ∙ g.0.line.in_output)

      by : ClassGiven a → ClassGiven b → a ≡ b
      by (inl x) (inl y) = sym (library_class a x) ∙ e ∙ library_class b y
      by (inl x) (inr (l, y)) = absurd (apart a b l x y (sym (library_class a x) ∙ e ∙ new_of_line b l y))
      by (inr (l, x)) (inl y) = absurd (apart b a l y x (sym (library_class b y) ∙ sym e ∙ new_of_line a l x))
      by (inr (l, x)) (inr (m, y)) =
          let g = line_of input output mapping rules taken pair a l x in
          let h = line_of input output mapping rules taken pair b m y in
          let new : l.new ≡ m.new = sym (new_of_line a l x) ∙ e ∙ new_of_line b m y in
          let lines : l ≡ m = same_Some l m (sym g.0.line.new
          ∙ ap (λ (t : List ℕ). lookup (λ k. is_text k t) (map (λ (l : MapClass). (l.new, l)) mapping.classes)) new
          ∙ h.0.line.new) in
          sym g.1 ∙ ap (λ (l : MapClass). l.old) lines ∙ h.1

  package_stays : (j : ℕ) (d : Class) → slice_get rest j ≡ Some d
      → package_of (new_names.class d.name) ≡ package_of d.name
  package_stays j d at =
      let b = becomes input output mapping rules taken pair j d at in
      let c = b.class in
      let new : new_class mapping c.name ≡ Some b.new.line.new =
      ap (option_map (λ (l : MapClass). l.new)) b.new.line_is in
      let one = all_at (λ (c : Class). moved_in (c, names_given mapping c) ≡ None) input b.n c
      (zip_given (λ (p : Class × ClassNames). moved_in p ≡ None) (names_given mapping) input
      (all_first moved_in (zip input (given_names mapping input)) (sym pair.packages))) b.there in
      let still : is_moved c.name (Some b.new.line.new) ≡ false =
      sym (ap (is_moved c.name) new) ∙ no_place (is_moved c.name (new_class mapping c.name)) (class_place c.name) one in
      let same = same_text (package_of c.name) (package_of b.new.line.new)
      (not-false (is_text (package_of c.name) (package_of b.new.line.new)) still) in
      let own : d.name ≡ c.name = ap (λ (x : Class). x.name) b.is in
      ap (λ (t : List ℕ). package_of (new_names.class t)) own
      ∙ ap package_of (ap (λ o. unwrap_or o c.name) new) ∙ sym same ∙ ap package_of (sym own)

  -- ---- the whole

  pub apart : KeepsNamesApart new_names rest
  apart =
      let fields = fields_table input output mapping rules taken pair in
      let methods = methods_table input output mapping rules taken pair in
      record {
        library_class = library_class;
        class_name = class_formed;
        one_class = one_class;
        packages = package_stays;
        library_field = λ id k row at kind. fixing.fixed_stays is_text text_test fields fixed.field fields_right
            row.named.0
            (field_fixed row.named.0 (ap (λ (b : Bool). is_taken (library_names b) row.named.0) (sym kind)
            ∙ library_name_taken rest id k row at));
        library_method = λ id k row at kind.
            method_is row.named.0 row.named.1
            ∙ ap (λ (n : NameAndType). n.0) (fixing.fixed_stays is_same named_test methods fixed_named methods_right
            row.named (library_method_fixed row.named.1 row.named.0
            (ap (λ (b : Bool). is_taken (library_names b) row.named.0) (sym kind)
            ∙ library_name_taken rest id k row at)));
        one_field = λ a b h k e. fixing.one_name is_text text_test fields fixed.field fields_right a.0 b.0
            (field_given a h) (field_given b k) e;
        one_method = λ a b d h k e. ap (λ (n : NameAndType). n.0)
            (fixing.one_name is_same named_test methods fixed_named methods_right (a, d) (b, d) (method_given (a, d) h)
            (method_given (b, d) k) (named_same a b d e));
        init_field = init_of_fields;
        init_method = λ a d h. init_same a d
            (fixing.test_stays is_same named_test methods fixed_named methods_right (codes "<init>", d) (a, d)
            (method_fixed d (codes "<init>") refl) (method_given (a, d) h));
        clinit = λ d.
            method_is (codes "<clinit>") d
            ∙ ap (λ (n : NameAndType). n.0) (fixing.fixed_stays is_same named_test methods fixed_named methods_right
            (codes "<clinit>", d) (method_fixed d (codes "<clinit>") refl));
      }
