-- Lines of what is kept: none is at fault.
use Rattle.std.proofs.Common.{◌≡◌, ◌≢◌, ℕ, ◌||◌, ◌&&◌, not, Bool, true, false, List, [], ◌∷◌, ◌++◌, map, None, refl, ap}
use Rattle.std.specs.List.{AllByRecursion, flat_map, list_any}
use Rattle.std.specs.Option.{option_or}
use Rattle.jv_base.specs.Names.{is_text}
use Rattle.jv_base.specs.Types.{field_text, method_text}
use Rattle.jv_base.proofs.Equality.{text_Decides}
use Rattle.jv_base.proofs.Lists.{all_append, all_weaker, all_both}
use Rattle.class_model.specs.Members.{FieldsDiffer, MethodsDiffer}
use Rattle.class_model.specs.declared.class.Class.{Class}
use Rattle.class_model.specs.declared.class.Field.{Field}
use Rattle.class_model.specs.declared.class.Method.{Method}
use Rattle.class_rename.specs.Names.{Names}
use Rattle.mapping_file.specs.declared.mapping.MapClass.{MapClass}
use Rattle.new_names.specs.NewNames.{NameAndType, field_names, is_same}
use Rattle.rename_map.specs.MappingOf.{class_lines, field_line, method_line}
use Rattle.pair_clauses.specs.Places.{class_place, field_place, method_place, place_if}
use Rattle.pair_clauses.specs.Shape.{clashes, field_fault, field_named, fields_fault, has_class, has_member}
use Rattle.pair_clauses.specs.Shape.{is_field_wrong, is_line_at_fault, is_method_wrong, line_fault, lines_fault}
use Rattle.pair_clauses.specs.Shape.{method_fault, method_named, method_pairs, methods_fault}
use Rattle.pair_laws.proofs.OwnShape.Clashing.{IsPair, TellsApart, no_clash}
use Rattle.pair_laws.proofs.OwnShape.Members.{IsThere}
use Rattle.pair_laws.proofs.PairSame.Tables.{named_test, text_test}
use Rattle.pair_laws.proofs.OwnShape.Searching.{Differ, none_found}

-- ---- lists

-- ---- keys

not_text : (a b : List ℕ) → a ≢ b → is_text a b ≡ false
not_text a b differ = by (is_text a b) refl
  where
    by : (t : Bool) → is_text a b ≡ t → t ≡ false
    by true e = absurd (differ ((text_Decides a b).0 e))
    by false e = refl

-- two keys that differ in one part are not the same
not_same : (a b c d : List ℕ) → ((a ≡ b) × (c ≡ d) → ⊥) → (is_text a b && is_text c d) ≡ false
not_same a b c d differ = by (is_text a b) refl (is_text c d) refl
  where
    by : (t : Bool) → is_text a b ≡ t → (u : Bool) → is_text c d ≡ u → (t && u) ≡ false
    by false e u f = refl
    by true e false f = refl
    by true e true f = absurd (differ ((text_Decides a b).0 e, (text_Decides c d).0 f))

-- the new name of a method, with its descriptor
abbrev pub new_named : Names → NameAndType → NameAndType
new_named names m = (names.method m.0 m.1, m.1)

module _ (classes : List Class) (names : Names) (lines : Bool) (ClassName FieldName : List ℕ → Type 0)
    (MethodName : NameAndType → Type 0) (fields_told : TellsApart FieldName names.field)
    (methods_told : TellsApart MethodName (new_named names)) where
  abbrev line : Class → MapClass
  line c = class_lines names lines c

  -- ---- lines of members

  module _ (own_class : List ℕ) where
    -- a member of this class with a known name
    abbrev GoodField : Field → Type 0
    GoodField f = (has_member classes own_class (f.name, field_text f.ty) ≡ true) × FieldName f.name

    abbrev GoodMethod : Method → Type 0
    GoodMethod m = (has_member classes own_class (m.name, method_text m.ty) ≡ true)
        × MethodName (m.name, method_text m.ty)

    field_pairs : (own : List Field) → AllByRecursion (λ (f : Field). FieldName f.name) own
        → AllByRecursion (IsPair FieldName names.field) (field_names (map (field_line names) own))
    field_pairs [] all = tt
    field_pairs (f ∷ own) all = ((all.0, refl), field_pairs own all.1)

    methods_paired : (own : List Method) → AllByRecursion (λ (m : Method). MethodName (m.name, method_text m.ty)) own
        → AllByRecursion (IsPair MethodName (new_named names)) (method_pairs (map (method_line names lines) own))
    methods_paired [] all = tt
    methods_paired (m ∷ own) all = ((all.0, refl), methods_paired own all.1)

    no_field : (own : List Field) (f : Field) → AllByRecursion (λ b. FieldsDiffer b f) own
        → list_any (λ (key : NameAndType). is_same key (f.name, field_text f.ty))
        (map field_named (map (field_line names) own)) ≡ false
    no_field [] f differ = refl
    no_field (b ∷ own) f differ =
        λ i. not_same b.name f.name (field_text b.ty) (field_text f.ty) differ.0 i || no_field own f differ.1 i

    no_method : (own : List Method) (m : Method) → AllByRecursion (λ b. MethodsDiffer b m) own
        → list_any (λ (key : NameAndType). is_same key (m.name, method_text m.ty))
        (map method_named (map (method_line names lines) own)) ≡ false
    no_method [] m differ = refl
    no_method (b ∷ own) m differ =
        λ i. not_same b.name m.name (method_text b.ty) (method_text m.ty) differ.0 i || no_method own m differ.1 i

    module _ (before : List (List ℕ × List ℕ)) (known : AllByRecursion (IsPair FieldName names.field) before) where
      field_fits : (own : List Field) (f : Field) → AllByRecursion GoodField own → GoodField f
          → AllByRecursion (λ b. FieldsDiffer b f) own
          → field_fault classes own_class before (map (field_line names) own) (field_line names f) ≡ None
      field_fits own f all good differ = ap (λ (b : Bool). place_if b (field_place own_class f.ty f.name)) right
        where
          table : List (List ℕ × List ℕ)
          table = before ++ field_names (map (field_line names) own)

          clash : clashes is_text table f.name (names.field f.name) ≡ false
          clash = no_clash is_text text_test FieldName names.field fields_told table
              (all_append (IsPair FieldName names.field) before (field_names (map (field_line names) own)) known
              (field_pairs own (all_weaker GoodField (λ (f : Field). FieldName f.name) (λ f h. h.1) own all)))
              f.name good.1

          right : is_field_wrong classes own_class before (map (field_line names) own) (field_line names f) ≡ false
          right = λ i. (not (good.0 i) || no_field own f differ i) || clash i

      fields_fit : (fs : List Field) → AllByRecursion GoodField fs → Differ FieldsDiffer fs
          → fields_fault classes own_class before [] (map (field_line names) fs) ≡ None
      fields_fit = none_found (field_line names) (field_fault classes own_class before)
          (fields_fault classes own_class before) (λ own. refl) (λ own l ls one rest. λ i. option_or (one i) (rest i))
          GoodField FieldsDiffer field_fits

    module _ (before : List (NameAndType × NameAndType))
        (known : AllByRecursion (IsPair MethodName (new_named names)) before) where
      method_fits : (own : List Method) (m : Method) → AllByRecursion GoodMethod own → GoodMethod m
          → AllByRecursion (λ b. MethodsDiffer b m) own
          → method_fault classes own_class before (map (method_line names lines) own) (method_line names lines m)
          ≡ None
      method_fits own m all good differ = ap (λ (b : Bool). place_if b (method_place own_class m.ty m.name)) right
        where
          named : NameAndType
          named = (m.name, method_text m.ty)

          table : List (NameAndType × NameAndType)
          table = before ++ method_pairs (map (method_line names lines) own)

          clash : clashes is_same table named (new_named names named) ≡ false
          clash = no_clash is_same named_test MethodName (new_named names) methods_told table
              (all_append (IsPair MethodName (new_named names)) before (method_pairs (map (method_line names lines) own))
              known (methods_paired own
              (all_weaker GoodMethod (λ (m : Method). MethodName (m.name, method_text m.ty)) (λ m h. h.1) own all)))
              named good.1

          right : is_method_wrong classes own_class before (map (method_line names lines) own)
              (method_line names lines m) ≡ false
          right = λ i. (not (good.0 i) || no_method own m differ i) || clash i

      methods_fit : (ms : List Method) → AllByRecursion GoodMethod ms → Differ MethodsDiffer ms
          → methods_fault classes own_class before [] (map (method_line names lines) ms) ≡ None
      methods_fit = none_found (method_line names lines) (method_fault classes own_class before)
          (methods_fault classes own_class before) (λ own. refl)
          (λ own l ls one rest. λ i. option_or (one i) (rest i)) GoodMethod MethodsDiffer method_fits

  -- ---- lines of classes

  module _ (left : List Class) where
    -- a class that is kept and left, with known names
    pub record IsGood (c : Class) : Type 0 where
      pub there : IsThere classes c
      pub found : has_class left (names.class c.name) ≡ true
      pub fields : AllByRecursion (λ (f : Field). FieldName f.name) c.fields
      pub methods : AllByRecursion (λ (m : Method). MethodName (m.name, method_text m.ty)) c.methods

    -- two classes have neither one old nor one new name
    abbrev pub AreApart : Class → Class → Type 0
    AreApart b c = (b.name ≢ c.name) × (names.class b.name ≢ names.class c.name)

    field_tables : (before : List Class) → AllByRecursion IsGood before → AllByRecursion (IsPair FieldName names.field)
        (flat_map (λ (b : MapClass). field_names b.fields) (map line before))
    field_tables [] all = tt
    field_tables (c ∷ before) all =
        all_append (IsPair FieldName names.field) (field_names (map (field_line names) c.fields))
        (flat_map (λ (b : MapClass). field_names b.fields) (map line before))
        (field_pairs c.name c.fields all.0.fields) (field_tables before all.1)

    method_tables : (before : List Class) → AllByRecursion IsGood before
        → AllByRecursion (IsPair MethodName (new_named names))
        (flat_map (λ (b : MapClass). method_pairs b.methods) (map line before))
    method_tables [] all = tt
    method_tables (c ∷ before) all =
        all_append (IsPair MethodName (new_named names)) (method_pairs (map (method_line names lines) c.methods))
        (flat_map (λ (b : MapClass). method_pairs b.methods) (map line before))
        (methods_paired c.name c.methods all.0.methods) (method_tables before all.1)

    no_line : (key : MapClass → List ℕ) (name : List ℕ) (before : List Class)
        → AllByRecursion (λ (b : Class). key (line b) ≢ name) before
        → list_any (λ (l : MapClass). is_text (key l) name) (map line before) ≡ false
    no_line key name [] differ = refl
    no_line key name (b ∷ before) differ =
        λ i. not_text (key (line b)) name differ.0 i || no_line key name before differ.1 i

    class_fits : (before : List Class) (c : Class) → AllByRecursion IsGood before → IsGood c
        → AllByRecursion (λ b. AreApart b c) before → line_fault classes left (map line before) (line c) ≡ None
    class_fits before c all good apart =
        λ i. option_or (place_if (right i) (class_place c.name)) (option_or (fields i) (methods i))
      where
        old : list_any (λ (l : MapClass). is_text l.old c.name) (map line before) ≡ false
        old = no_line (λ (l : MapClass). l.old) c.name before
            (all_weaker (λ b. AreApart b c) (λ (b : Class). b.name ≢ c.name) (λ b h. h.0) before apart)

        new : list_any (λ (l : MapClass). is_text l.new (names.class c.name)) (map line before) ≡ false
        new = no_line (λ (l : MapClass). l.new) (names.class c.name) before
            (all_weaker (λ b. AreApart b c) (λ (b : Class). names.class b.name ≢ names.class c.name) (λ b h. h.1) before apart)

        right : is_line_at_fault classes left (map line before) (line c) ≡ false
        right = λ i. (not (good.there.class i) || old i) || (not (good.found i) || new i)

        fields : fields_fault classes c.name
            (flat_map (λ (b : MapClass). field_names b.fields) (map line before)) [] (map (field_line names) c.fields)
            ≡ None
        fields = fields_fit c.name (flat_map (λ (b : MapClass). field_names b.fields) (map line before))
            (field_tables before all) c.fields
            (all_both (λ (f : Field). has_member classes c.name (f.name, field_text f.ty) ≡ true)
            (λ (f : Field). FieldName f.name) c.fields good.there.fields good.fields)
            good.there.fields_differ

        methods : methods_fault classes c.name
            (flat_map (λ (b : MapClass). method_pairs b.methods) (map line before)) []
            (map (method_line names lines) c.methods) ≡ None
        methods = methods_fit c.name (flat_map (λ (b : MapClass). method_pairs b.methods) (map line before))
            (method_tables before all) c.methods
            (all_both (λ (m : Method). has_member classes c.name (m.name, method_text m.ty) ≡ true)
            (λ (m : Method). MethodName (m.name, method_text m.ty)) c.methods good.there.methods good.methods)
            good.there.methods_differ

    -- no line is at fault
    pub lines_fit : (kept : List Class) → AllByRecursion IsGood kept → Differ AreApart kept
        → lines_fault classes left [] (map line kept) ≡ None
    lines_fit = none_found line (line_fault classes left) (lines_fault classes left) (λ before. refl)
        (λ before l ls one rest. λ i. option_or (one i) (rest i)) IsGood AreApart class_fits
