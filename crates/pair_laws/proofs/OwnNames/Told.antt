-- A mapping of what is kept tells the names that it was made of, where each other name stays.
use Rattle.std.proofs.Common.{◌≡◌, ℕ, ◌||◌, ◌&&◌, Bool, true, false, cond, List, [], ◌∷◌, ◌++◌, map, Option}
use Rattle.std.proofs.Common.{Some, refl, sym, ap, ◌∙◌}
use Rattle.std.specs.List.{list_any}
use Rattle.std.specs.Map.{lookup}
use Rattle.std.specs.Option.{option_map, unwrap_or}
use Rattle.std.proofs.lemmas.Bool.{and_parts}
use Rattle.std.proofs.lemmas.List.{map-append}
use Rattle.jv_base.specs.Names.{is_text}
use Rattle.jv_base.specs.Types.{method_text}
use Rattle.jv_base.proofs.Equality.{text_Decides, text_sym}
use Rattle.class_model.specs.declared.class.Class.{Class}
use Rattle.class_model.specs.declared.class.Field.{Field}
use Rattle.class_model.specs.declared.class.Method.{Method}
use Rattle.mapping_file.specs.declared.mapping.MapClass.{MapClass}
use Rattle.class_rename.specs.Names.{MethodName, Names, Tables, is_same_method, same_names}
use Rattle.fresh_names.specs.Fresh.{is_taken}
use Rattle.fresh_names.specs.Given.{class_names, field_names, method_names}
use Rattle.new_names.specs.NewNames as told
use Rattle.rename_map.specs.Fixed.{Stay, names_that_stay}
use Rattle.rename_map.specs.MappingOf.{class_lines, field_line, mapping_of, method_line}
use Rattle.rename_map.specs.Names.{given_beside}
use Rattle.member_shrink.specs.Shrunk.{shrunk}
use Rattle.attribute_filter.specs.KeptAttributes.{filter_of}
use Rattle.pair_laws.specs.OwnNames.Laws.{MappingTellsNames}
use Rattle.pair_laws.proofs.RenamedForm.Given.{other_class_stays, other_field_stays, other_method_stays}

-- a name that isn't the first one and none of the others is none of all
none_of : (name other : List ℕ) (others : List (List ℕ)) → is_text other name ≡ false → is_taken others name ≡ false
    → (is_text name other || is_taken others name) ≡ false
none_of name other others first rest =
    ap (λ (b : Bool). b || is_taken others name) (text_sym name other ∙ first) ∙ rest

-- a name that is none of these stays
abbrev Stays : (List ℕ → List ℕ) → List (List ℕ) → List ℕ → Type 0
Stays new olds name = is_taken olds name ≡ false → new name ≡ name

-- ---- names of members

-- each name with its new one
abbrev pub with_new : (List ℕ → List ℕ) → List (List ℕ) → List (List ℕ × List ℕ)
with_new new olds = map (λ (old : List ℕ). (old, new old)) olds

-- a table of these gives each name its new one, where other names stay
pub table_tells : (new : List ℕ → List ℕ) (olds : List (List ℕ)) (name : List ℕ) → Stays new olds name
    → told.renamed_by (with_new new olds) name ≡ new name
table_tells new [] name stays = sym (stays refl)
table_tells new (old ∷ olds) name stays = on (is_text old name) refl (table_tells new olds name)
  where
    on : (b : Bool) → is_text old name ≡ b
        → (Stays new olds name → told.renamed_by (with_new new olds) name ≡ new name)
        → unwrap_or (cond b (Some (new old)) (lookup (λ old. is_text old name) (with_new new olds))) name ≡ new name
    on true e rest = ap new ((text_Decides old name).0 e)
    on false e rest = rest (λ none. stays (none_of name old olds e none))

-- ---- names of methods

-- a method that is none of these stays
abbrev pub MethodStays : (List ℕ → List ℕ → List ℕ) → List MethodName → MethodName → Type 0
MethodStays new olds m = list_any (is_same_method m) olds ≡ false → new m.0 m.1 ≡ m.0

-- each method with its new name
abbrev pub with_new_methods : (List ℕ → List ℕ → List ℕ) → List MethodName → List (MethodName × List ℕ)
with_new_methods new olds = map (λ (old : MethodName). (old, new old.0 old.1)) olds

none_of_methods : (m other : MethodName) (others : List MethodName) → is_same_method other m ≡ false
    → list_any (is_same_method m) others ≡ false → (is_same_method m other || list_any (is_same_method m) others) ≡ false
none_of_methods m other others first rest =
    ap (λ (b : Bool). b || list_any (is_same_method m) others)
    ((λ i. text_sym m.0 other.0 i && text_sym m.1 other.1 i) ∙ first) ∙ rest

pub same_method : (a b : MethodName) → is_same_method a b ≡ true → a ≡ b
same_method a b is =
    let parts = and_parts (is_text a.0 b.0) (is_text a.1 b.1) is in
    let name = (text_Decides a.0 b.0).0 parts.0 in
    let descriptor = (text_Decides a.1 b.1).0 parts.1 in
    λ i. (name i, descriptor i)

-- a table of these gives each method its new name, where others stay
pub methods_tell : (new : List ℕ → List ℕ → List ℕ) (olds : List MethodName) (m : MethodName)
    → MethodStays new olds m → told.method_renamed_by (with_new_methods new olds) m ≡ new m.0 m.1
methods_tell new [] m stays = sym (stays refl)
methods_tell new (old ∷ olds) m stays = on (is_same_method old m) refl (methods_tell new olds m)
  where
    on : (b : Bool) → is_same_method old m ≡ b
        → (MethodStays new olds m → told.method_renamed_by (with_new_methods new olds) m ≡ new m.0 m.1)
        → unwrap_or (cond b (Some (new old.0 old.1)) (lookup (λ old. told.is_same old m) (with_new_methods new olds))) m.0
        ≡ new m.0 m.1
    on true e rest = ap (λ (n : MethodName). new n.0 n.1) (same_method old m e)
    on false e rest = rest (λ none. stays (none_of_methods m old olds e none))

module _ (names : Names) where
  fields_paired : (fs : List Field)
      → told.field_names (map (field_line names) fs) ≡ with_new names.field (map (λ (f : Field). f.name) fs)
  fields_paired [] = refl
  fields_paired (f ∷ fs) = ap (λ (t : List (List ℕ × List ℕ)). (f.name, names.field f.name) ∷ t) (fields_paired fs)

  module _ (lines : Bool) where
    -- the pairs of the lines of fields
    pub all_fields_paired : (kept : List Class) → told.all_field_names (map (class_lines names lines) kept)
        ≡ with_new names.field (field_names kept)
    all_fields_paired [] = refl
    all_fields_paired (c ∷ cs) =
        (λ i. fields_paired c.fields i ++ all_fields_paired cs i)
        ∙ sym (map-append (λ (old : List ℕ). (old, names.field old)) (map (λ (f : Field). f.name) c.fields)
        (field_names cs))

    methods_paired : (ms : List Method) → told.method_lines (map (method_line names lines) ms)
        ≡ with_new_methods names.method (map (λ (m : Method). (m.name, method_text m.ty)) ms)
    methods_paired [] = refl
    methods_paired (m ∷ ms) = ap
        (λ (t : List (MethodName × List ℕ)). ((m.name, method_text m.ty), names.method m.name (method_text m.ty)) ∷ t)
        (methods_paired ms)

    -- and those of the lines of methods, with their descriptors
    pub all_methods_paired : (kept : List Class) → told.all_method_names (map (class_lines names lines) kept)
        ≡ with_new_methods names.method (method_names kept)
    all_methods_paired [] = refl
    all_methods_paired (c ∷ cs) =
        (λ i. methods_paired c.methods i ++ all_methods_paired cs i)
        ∙ sym (map-append (λ (old : MethodName). (old, names.method old.0 old.1))
        (map (λ (m : Method). (m.name, method_text m.ty)) c.methods) (method_names cs))

    -- ---- names of classes

    class_told : (kept : List Class) (name : List ℕ) → Stays names.class (class_names kept) name
        → unwrap_or (option_map (λ (l : MapClass). l.new)
        (lookup (λ old. is_text old name) (told.class_lines (map (class_lines names lines) kept)))) name
        ≡ names.class name
    class_told [] name stays = sym (stays refl)
    class_told (c ∷ cs) name stays = on (is_text c.name name) refl (class_told cs name)
      where
        rest : Option MapClass
        rest = lookup (λ old. is_text old name) (told.class_lines (map (class_lines names lines) cs))

        on : (b : Bool) → is_text c.name name ≡ b
            → (Stays names.class (class_names cs) name
            → unwrap_or (option_map (λ (l : MapClass). l.new) rest) name ≡ names.class name)
            → unwrap_or (option_map (λ (l : MapClass). l.new) (cond b (Some (class_lines names lines c)) rest)) name
            ≡ names.class name
        on true e more = ap names.class ((text_Decides c.name name).0 e)
        on false e more = more (λ none. stays (none_of name c.name (class_names cs) e none))

module _ (names : Names) (lines : Bool) (kept : List Class)
    (classes : (name : List ℕ) → Stays names.class (class_names kept) name)
    (fields : (name : List ℕ) → Stays names.field (field_names kept) name)
    (methods : (m : MethodName) → MethodStays names.method (method_names kept) m) where
  field_told : (name : List ℕ)
      → told.renamed_by (told.all_field_names (map (class_lines names lines) kept)) name ≡ names.field name
  field_told name =
      ap (λ (t : List (List ℕ × List ℕ)). told.renamed_by t name) (all_fields_paired names lines kept)
      ∙ table_tells names.field (field_names kept) name (fields name)

  method_told : (m : MethodName)
      → told.method_renamed_by (told.all_method_names (map (class_lines names lines) kept)) m ≡ names.method m.0 m.1
  method_told m =
      ap (λ (t : List (MethodName × List ℕ)). told.method_renamed_by t m) (all_methods_paired names lines kept)
      ∙ methods_tell names.method (method_names kept) m (methods m)

  -- where other names stay, the mapping tells all of them
  names_told : told.names_of (mapping_of names lines kept) ≡ names
  names_told = λ i. record {
    class = λ name. class_told names lines kept name (classes name) i;
    field = λ name. field_told name i;
    method = λ name descriptor. method_told (name, descriptor) i;
  }

-- ---- names that are given

told_by : (obfuscate : Bool) (stay : Stay) (old : Tables) (lines : Bool) (kept : List Class)
    → told.names_of (mapping_of (cond obfuscate (given_beside stay old kept) same_names) lines kept)
    ≡ cond obfuscate (given_beside stay old kept) same_names
told_by true stay old lines kept =
    names_told (given_beside stay old kept) lines kept (other_class_stays old.classes stay.classes (class_names kept))
    (other_field_stays old.fields stay.fields (field_names kept))
    (λ m none. other_method_stays old.methods stay.methods (method_names kept) m.0 m.1 none)
told_by false stay old lines kept =
    names_told same_names lines kept (λ name none. refl) (λ name none. refl) (λ m none. refl)

pub mapping_tells : MappingTellsNames
mapping_tells classes marks rules old =
    told_by rules.obfuscate (names_that_stay rules classes) (told.tables_of old) (filter_of rules).line_numbers
    (shrunk classes marks)
