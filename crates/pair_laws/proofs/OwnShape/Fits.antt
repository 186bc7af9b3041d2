-- The mapping of a set that is taken fits the set and what is left of it.
use Rattle.std.proofs.Common.{◌≡◌, ◌≢◌, inr, ℕ, not, Bool, true, false, cond, List, [], ◌∷◌, map, None, refl}
use Rattle.std.proofs.Common.{sym, ap, subst, ◌∙◌}
use Rattle.std.specs.Prelude.{IsPermutation}
use Rattle.std.specs.List.{AllByRecursion, list_any}
use Rattle.std.specs.Option.{option_map, option_or}
use Rattle.std.proofs.lemmas.List.Elements.{All-from_recursion, recursion_from_All}
use Rattle.std.proofs.lemmas.List.Sorted.{All-permutation, IsPermutation-sym}
use Rattle.std.proofs.lemmas.Option.{slice_get-map}
use Rattle.jv_base.specs.Names.{is_text}
use Rattle.jv_base.specs.Types.{method_text}
use Rattle.jv_base.proofs.Equality.{text_itself}
use Rattle.jv_base.proofs.Lists.{all_from, all_mapped, any_at}
use Rattle.class_model.specs.declared.class.Class.{Class}
use Rattle.class_model.specs.declared.class.Field.{Field}
use Rattle.class_model.specs.declared.class.Method.{Method}
use Rattle.attribute_filter.specs.Filtered.{filtered}
use Rattle.attribute_filter.specs.KeptAttributes.{filter_of}
use Rattle.attribute_filter.specs.declared.filter.AttributeFilter.{AttributeFilter}
use Rattle.class_rename.specs.Names.{Names, Tables, same_names}
use Rattle.class_rename.specs.Renamed.{renamed}
use Rattle.fresh_names.specs.Fresh.{is_taken}
use Rattle.fresh_names.specs.Given.{class_names, field_names, method_names, of_type}
use Rattle.fresh_names.proofs.Tables.{classes_differ, fields_differ, methods_differ}
use Rattle.mapping_file.specs.declared.mapping.MapClass.{MapClass}
use Rattle.mapping_file.specs.declared.mapping.Mapping.{Mapping}
use Rattle.member_shrink.specs.Shrunk.{shrunk}
use Rattle.new_names.specs.NewNames.{NameAndType, tables_of}
use Rattle.rename_map.specs.Fixed.{Stay, names_that_stay}
use Rattle.rename_map.specs.MappingOf.{class_lines, mapping_of}
use Rattle.rename_map.specs.Names.{given_beside}
use Rattle.require_sys.proofs.Parts.{all_map}
use Rattle.set_shrink.specs.Order as order
use Rattle.set_shrink.specs.ShrunkSet.{left_of}
use Rattle.pair_laws.proofs.NamedForm.Apart.{kept_apart}
use Rattle.pair_laws.proofs.NamedForm.Written.{set_apart}
use Rattle.pair_clauses.specs.Finding.{first_place}
use Rattle.pair_clauses.specs.Places.{class_place, place_if}
use Rattle.pair_clauses.specs.Shape.{has_class, shape_fault, unlined_fault}
use Rattle.pair_laws.proofs.OwnNames.Apart.{name_among}
use Rattle.pair_laws.proofs.OwnNames.Ordered.{left_renamed, linked_of}
use Rattle.pair_laws.specs.OwnShape.Laws.{OwnMappingFits}
use Rattle.pair_laws.proofs.OwnShape.Clashing.{TellsApart}
use Rattle.pair_laws.proofs.OwnShape.Lines.{AreApart, IsGood, lines_fit, new_named}
use Rattle.pair_laws.proofs.OwnShape.Members.{IsThere, found_some, kept_there}
use Rattle.pair_laws.proofs.OwnShape.Searching.{Differ}
use Rattle.pair_laws.proofs.RenamedForm.GivenWritable.{in_kept, method_among}

-- ---- classes that are left

-- each is found by its name
own_found : (left : List Class) → AllByRecursion (λ (d : Class). has_class left d.name ≡ true) left
own_found left = all_from (λ (d : Class). has_class left d.name ≡ true) left
    (λ k d at. found_some (λ (x : Class). is_text d.name x.name) left k d at (text_itself d.name))

-- where each has its line, none is told
unlined_none : (lines : List MapClass) (left : List Class)
    → AllByRecursion (λ (d : Class). list_any (λ (l : MapClass). is_text l.new d.name) lines ≡ true) left
    → first_place (unlined_fault lines) left ≡ None
unlined_none lines [] all = refl
unlined_none lines (d ∷ left) all =
    λ i. option_or (place_if (not (all.0 i)) (class_place d.name)) (unlined_none lines left all.1 i)

module _ (names : Names) (lines : Bool) (filter : AttributeFilter) (kept left : List Class)
    (same : IsPermutation (map (renamed names) (map (filtered filter) kept)) left) where
  -- each class that is kept is left under its new name
  all_left : AllByRecursion (λ (c : Class). has_class left (names.class c.name) ≡ true) kept
  all_left =
      let here : AllByRecursion (λ (d : Class). has_class left d.name ≡ true)
      (map (renamed names) (map (filtered filter) kept)) =
      recursion_from_All (λ (d : Class). has_class left d.name ≡ true)
      (map (renamed names) (map (filtered filter) kept))
      (All-permutation (λ (d : Class). has_class left d.name ≡ true) left
      (map (renamed names) (map (filtered filter) kept))
      (IsPermutation-sym (map (renamed names) (map (filtered filter) kept)) left same)
      (All-from_recursion (λ (d : Class). has_class left d.name ≡ true) left (own_found left))) in
      all_map (λ (c : Class). has_class left (names.class c.name) ≡ true) (filtered filter) kept
      (all_map (λ (d : Class). has_class left d.name ≡ true) (renamed names) (map (filtered filter) kept) here)

  abbrev HasLine : Class → Type 0
  HasLine d = list_any (λ (l : MapClass). is_text l.new d.name) (map (class_lines names lines) kept) ≡ true

  -- and each that is left has its line
  all_lined : AllByRecursion HasLine left
  all_lined =
      let own : AllByRecursion (λ (c : Class). HasLine (renamed names (filtered filter c))) kept =
      all_from (λ (c : Class). HasLine (renamed names (filtered filter c))) kept
      (λ k c at.
      any_at (λ (l : MapClass). is_text l.new (names.class c.name)) (map (class_lines names lines) kept) k
      (class_lines names lines c)
      (slice_get-map (class_lines names lines) kept k ∙ ap (option_map (class_lines names lines)) at)
      (text_itself (names.class c.name))) in
      let here : AllByRecursion HasLine (map (renamed names) (map (filtered filter) kept)) =
      all_mapped HasLine (renamed names) (map (filtered filter) kept)
      (all_mapped (λ (c : Class). HasLine (renamed names c)) (filtered filter) kept own) in
      recursion_from_All HasLine left
      (All-permutation HasLine (map (renamed names) (map (filtered filter) kept)) left same
      (All-from_recursion HasLine (map (renamed names) (map (filtered filter) kept)) here))

-- ---- the whole

-- a name of kept classes, of their fields or of their methods
abbrev IsClassName : List Class → List ℕ → Type 0
IsClassName kept a = is_taken (class_names kept) a ≡ true

abbrev IsFieldName : List Class → List ℕ → Type 0
IsFieldName kept a = is_taken (field_names kept) a ≡ true

abbrev IsMethodName : List Class → NameAndType → Type 0
IsMethodName kept m = is_taken (of_type m.1 (method_names kept)) m.0 ≡ true

module _ (classes kept : List Class) (names : Names) (lines : Bool) (filter : AttributeFilter)
    (classes_told : TellsApart (IsClassName kept) names.class) (fields_told : TellsApart (IsFieldName kept) names.field)
    (methods_told : TellsApart (IsMethodName kept) (new_named names)) (there : AllByRecursion (IsThere classes) kept)
    (apart : order.AreApart kept) (left : List Class) where
  abbrev Good : Class → Type 0
  Good c = IsGood classes names lines (IsClassName kept) (IsFieldName kept) (IsMethodName kept) fields_told
      methods_told left c

  abbrev Apart : Class → Class → Type 0
  Apart b c = AreApart classes names lines (IsClassName kept) (IsFieldName kept) (IsMethodName kept)
      fields_told methods_told left b c

  others_apart : (c : Class) (cs : List Class) → IsClassName kept c.name
      → AllByRecursion (λ (d : Class). IsClassName kept d.name) cs → AllByRecursion (λ (d : Class). c.name ≢ d.name) cs
      → AllByRecursion (Apart c) cs
  others_apart c [] own all differ = tt
  others_apart c (d ∷ cs) own all differ = (
    (differ.0, λ same. differ.0 (classes_told.one c.name d.name own all.0 same)),
    others_apart c cs own all.1 differ.1,
  )

  all_apart : (cs : List Class) → AllByRecursion (λ (d : Class). IsClassName kept d.name) cs → order.AreApart cs
      → Differ Apart cs
  all_apart [] all apart = tt
  all_apart (c ∷ cs) all apart = (others_apart c cs all.0 all.1 apart.0, all_apart cs all.1 apart.1)

  abbrev HasMethodNames : Class → Type 0
  HasMethodNames c = AllByRecursion (λ (m : Method). IsMethodName kept (m.name, method_text m.ty)) c.methods

  module _ (same : IsPermutation (map (renamed names) (map (filtered filter) kept)) left) where
    good : AllByRecursion Good kept
    good = goes kept there (all_left names lines filter kept left same)
        (all_from (λ (c : Class). AllByRecursion (λ (f : Field). IsFieldName kept f.name) c.fields) kept
        (λ k c at. all_from (λ (f : Field). IsFieldName kept f.name) c.fields
        (λ j f is. in_kept (λ (c : Class). map (λ (f : Field). f.name) c.fields) kept k c at f.name
        (name_among (λ (f : Field). f.name) c.fields j f is))))
        (all_from HasMethodNames kept
        (λ k c at. all_from (λ (m : Method). IsMethodName kept (m.name, method_text m.ty)) c.methods
        (λ j m is. method_among kept k c at j m is)))
      where
        goes : (cs : List Class) → AllByRecursion (IsThere classes) cs
            → AllByRecursion (λ (c : Class). has_class left (names.class c.name) ≡ true) cs
            → AllByRecursion (λ (c : Class). AllByRecursion (λ (f : Field). IsFieldName kept f.name) c.fields) cs
            → AllByRecursion HasMethodNames cs
            → AllByRecursion Good cs
        goes [] t l f m = tt
        goes (c ∷ cs) t l f m =
            (record { there = t.0; found = l.0; fields = f.0; methods = m.0 }, goes cs t.1 l.1 f.1 m.1)

    fits : None ≡ shape_fault classes left (mapping_of names lines kept)
    fits = λ i. option_or
        (sym (lines_fit classes names lines (IsClassName kept) (IsFieldName kept) (IsMethodName kept)
        fields_told methods_told left kept good
        (all_apart kept
        (all_from (λ (c : Class). IsClassName kept c.name) kept
        (λ k c at. name_among (λ (c : Class). c.name) kept k c at))
        apart)) i)
        (sym (unlined_none (map (class_lines names lines) kept) left (all_lined names lines filter kept left same)) i)

fits_by : (obfuscate : Bool) (stay : Stay) (old : Tables) (lines : Bool) (filter : AttributeFilter)
    (classes kept left : List Class) → AllByRecursion (IsThere classes) kept → order.AreApart kept
    → IsPermutation (map (renamed (cond obfuscate (given_beside stay old kept) same_names)) (map (filtered filter) kept))
    left
    → None ≡ shape_fault classes left (mapping_of (cond obfuscate (given_beside stay old kept) same_names) lines kept)
fits_by true stay old lines filter classes kept left there apart same =
    fits classes kept (given_beside stay old kept) lines filter
    (record { one = λ a b h k same. classes_differ old.classes stay.classes (class_names kept) a b (inr h) (inr k) same })
    (record { one = λ a b h k same. fields_differ old.fields stay.fields (field_names kept) a b (inr h) (inr k) same })
    (record { one = one_method }) there apart left same
  where
    one_method : (a b : NameAndType) → IsMethodName kept a → IsMethodName kept b
        → new_named (given_beside stay old kept) a ≡ new_named (given_beside stay old kept) b → a ≡ b
    one_method a b h k same =
        let descriptor : a.1 ≡ b.1 = ap (λ (n : NameAndType). n.1) same in
        let name = methods_differ old.methods stay.methods (method_names kept) a.1 a.0 b.0 (inr h)
        (inr (subst (λ (d : List ℕ). is_taken (of_type d (method_names kept)) b.0 ≡ true) (sym descriptor) k))
        (ap (λ (n : NameAndType). n.0) same
        ∙ ap (λ (d : List ℕ). (given_beside stay old kept).method b.0 d) (sym descriptor)) in
        λ i. (name i, descriptor i)
fits_by false stay old lines filter classes kept left there apart same =
    fits classes kept same_names lines filter
    (record { one = λ a b h k same. same }) (record { one = λ a b h k same. same })
    (record { one = λ a b h k same. same }) there apart left same

pub mapping_fits : OwnMappingFits
mapping_fits classes marks rules old taken =
    fits_by rules.obfuscate (names_that_stay rules classes) (tables_of old) (filter_of rules).line_numbers
    (filter_of rules) classes (shrunk classes marks) (left_of classes marks rules old) (kept_there classes taken marks)
    (kept_apart classes marks (set_apart classes (linked_of classes taken)))
    (left_renamed classes marks rules old taken)
