-- The new names of a set that is taken are names of their kind, and keep apart what is kept.
use Rattle.std.proofs.Common.{◌≡◌, ℕ, ◌+◌, Bool, true, false, cond, List, [], ◌∷◌, ◌++◌, map, Option}
use Rattle.std.specs.Prelude.{IfSome}
use Rattle.std.proofs.Common.{codes, refl, ap, subst, ◌∙◌}
use Rattle.std.specs.List.{AllByRecursion}
use Rattle.std.proofs.lemmas.Bool.{or_right}
use Rattle.jv_base.specs.Names.{is_member_name}
use Rattle.jv_base.specs.Types.{method_text}
use Rattle.jv_base.proofs.Lists.{all_at}
use Rattle.mark_core.specs.Marks.{Closed}
use Rattle.class_model.specs.WellFormed.{IsGoodField, IsName}
use Rattle.class_model.specs.Flags.{is_interface}
use Rattle.class_model.specs.declared.class.Class.{Class}
use Rattle.class_model.specs.declared.class.Field.{Field}
use Rattle.class_model.specs.declared.class.Method.{Method}
use Rattle.class_pool.specs.Items.{class_item}
use Rattle.class_rename.specs.Names.{MethodName, Tables, same_names}
use Rattle.attribute_filter.specs.Filtered.{field_filtered, filtered, method_filtered}
use Rattle.attribute_filter.specs.KeptAttributes.{filter_of}
use Rattle.attribute_filter.specs.declared.filter.AttributeFilter.{AttributeFilter}
use Rattle.fresh_names.specs.Fresh.{is_taken}
use Rattle.fresh_names.specs.Given.{class_given, class_names, field_given, field_names, method_given, method_names}
use Rattle.fresh_names.specs.Reserved.{reserved}
use Rattle.fresh_names.specs.declared.taken.Named.TheVariants as named
use Rattle.fresh_names.proofs.Reserved.{taken_parts}
use Rattle.keep_rules.specs.declared.rules.Rules.{Rules}
use Rattle.member_shrink.specs.Shrunk.{is_marked, shrunk}
use Rattle.class_laws.proofs.Mapped.{all_mapped}
use Rattle.mapping_file.specs.Mappings.{IsMapping}
use Rattle.mapping_file.specs.declared.mapping.Mapping.{Mapping}
use Rattle.new_names.specs.NewNames.{tables_of}
use Rattle.pair_laws.proofs.NamedForm.Earlier.{tables_tell}
use Rattle.pair_laws.proofs.NamedForm.Kept.{NoneJava, no_name, none_java}
use Rattle.pair_laws.proofs.NamedForm.Picked.{all_picked_at}
use Rattle.pair_laws.proofs.NamedForm.Same.{same_form}
use Rattle.pair_laws.proofs.NamedForm.Written.{has_reserved, taken_of}
use Rattle.rename_map.specs.Fixed.{Stay, names_that_stay}
use Rattle.rename_map.specs.Names.{given_beside}
use Rattle.pair_laws.specs.RenamedForm.Form.{KeepsForm}
use Rattle.pair_laws.proofs.RenamedForm.Given.{given_form}
use Rattle.pair_laws.specs.RenamedImage.Renaming.{KeepsNamesApart}
use Rattle.rule_system.specs.Required.{kept_by_rules, required}
use Rattle.image_laws.specs.TakenSet.TakenSet.{IsTaken}
use Rattle.pair_laws.specs.OwnNames.Laws.{NewNamesKeepForm, NewNamesStayApart, kept_of}
use Rattle.pair_laws.proofs.OwnNames.Apart.{AreFieldNames, given_apart, same_apart}
use Rattle.pair_laws.proofs.OwnNames.Ordered.{linked_of}

-- ---- the filter changes no name

module _ (filter : AttributeFilter) where
  field_names_stay : (fs : List Field) → map (λ (f : Field). f.name) (map (field_filtered filter) fs)
      ≡ map (λ (f : Field). f.name) fs
  field_names_stay [] = refl
  field_names_stay (f ∷ fs) = ap (λ (t : List (List ℕ)). f.name ∷ t) (field_names_stay fs)

  method_names_stay : (ms : List Method)
      → map {B = MethodName} (λ (m : Method). (m.name, method_text m.ty)) (map (method_filtered filter) ms)
      ≡ map {B = MethodName} (λ (m : Method). (m.name, method_text m.ty)) ms
  method_names_stay [] = refl
  method_names_stay (m ∷ ms) = ap (λ (t : List MethodName). (m.name, method_text m.ty) ∷ t) (method_names_stay ms)

  classes_stay : (kept : List Class) → class_names (map (filtered filter) kept) ≡ class_names kept
  classes_stay [] = refl
  classes_stay (c ∷ cs) = ap (λ (t : List (List ℕ)). c.name ∷ t) (classes_stay cs)

  fields_stay : (kept : List Class) → field_names (map (filtered filter) kept) ≡ field_names kept
  fields_stay [] = refl
  fields_stay (c ∷ cs) = λ i. field_names_stay c.fields i ++ fields_stay cs i

  methods_stay : (kept : List Class) → method_names (map (filtered filter) kept) ≡ method_names kept
  methods_stay [] = refl
  methods_stay (c ∷ cs) = λ i. method_names_stay c.methods i ++ methods_stay cs i

  -- nor what is given
  given_stay : (stay : Stay) (old : Tables) (kept : List Class)
      → given_beside stay old (map (filtered filter) kept) ≡ given_beside stay old kept
  given_stay stay old kept = λ i. record {
    class = class_given old.classes stay.classes (classes_stay kept i);
    field = field_given old.fields stay.fields (fields_stay kept i);
    method = method_given old.methods stay.methods (methods_stay kept i);
  }

  java_stays : (kept : List Class) → NoneJava kept → NoneJava (map (filtered filter) kept)
  java_stays [] none = tt
  java_stays (c ∷ cs) none = (none.0, java_stays cs none.1)

-- ---- names of fields

-- fields of a class have names of members
abbrev HasFieldNames : Class → Type 0
HasFieldNames c = AllByRecursion (λ (f : Field). IsName is_member_name f.name) c.fields

module _ (classes : List Class) (marks : List Bool) (rules : Rules) (old : Option Mapping) (has : IfSome old IsMapping)
    (taken : IsTaken classes)
    (closed : Closed (required classes rules) (is_marked marks)) where
  abbrev kept : List Class
  kept = shrunk classes marks

  abbrev stay : Stay
  stay = names_that_stay rules classes

  abbrev filter : AttributeFilter
  filter = filter_of rules

  kept_named : AllByRecursion HasFieldNames kept
  kept_named = all_picked_at (λ n. is_marked marks (class_item classes n)) _ HasFieldNames 0 classes
      (λ k c at passes.
      all_picked_at (is_marked marks) (λ (e : ℕ × Field). e.1) (λ (f : Field). IsName is_member_name f.name)
      (class_item classes (0 + k) + 1) c.fields
      (λ j f there h.
      (all_at (IsGoodField (is_interface c.flags.0)) c.fields j f (taken.formed k c at).fields there).name))

  left_named : AllByRecursion HasFieldNames (kept_of classes marks rules)
  left_named = all_mapped HasFieldNames HasFieldNames (filtered filter)
      (λ c all. all_mapped (λ (f : Field). IsName is_member_name f.name) (λ (f : Field). IsName is_member_name f.name)
      (field_filtered filter) (λ f h. h) c.fields all)
      kept kept_named

  good : AreFieldNames (kept_of classes marks rules)
  good j d at k x there =
      all_at (λ (f : Field). IsName is_member_name f.name) d.fields k x
      (all_at HasFieldNames (kept_of classes marks rules) j d left_named at) there

  none : NoneJava kept
  none = none_java classes (kept_by_rules classes rules) marks (linked_of classes taken) closed

  fields_reserved : (a : List ℕ) → is_taken (reserved named.Field) a ≡ true → is_taken stay.fields a ≡ true
  fields_reserved a h = taken_parts _ (reserved named.Field) a ∙ or_right _ (is_taken (reserved named.Field) a) h

  form_of : (cs : List Class) → NoneJava cs → KeepsForm (given_beside stay (tables_of old) cs)
  form_of cs none =
      given_form (taken_of stay) (tables_of old) cs (has_reserved rules classes) (tables_tell old has)
      (no_name cs (codes "java/lang/String") none refl)

  form_by : (obfuscate : Bool) → KeepsForm (cond obfuscate (given_beside stay (tables_of old) kept) same_names)
  form_by true = form_of kept none
  form_by false = same_form

  apart_by : (obfuscate : Bool)
      → KeepsNamesApart (cond obfuscate (given_beside stay (tables_of old) kept) same_names) (kept_of classes marks rules)
  apart_by true =
      subst (λ names. KeepsNamesApart names (kept_of classes marks rules)) (given_stay filter stay (tables_of old) kept)
      (given_apart stay (tables_of old) (kept_of classes marks rules)
      (form_of (kept_of classes marks rules) (java_stays filter kept none)) fields_reserved
      (java_stays filter kept none) good)
  apart_by false = same_apart (kept_of classes marks rules)

pub keep_form : NewNamesKeepForm
keep_form classes marks rules old has taken closed = form_by classes marks rules old has taken closed rules.obfuscate

pub stay_apart : NewNamesStayApart
stay_apart classes marks rules old has taken closed =
    apart_by classes marks rules old has taken closed rules.obfuscate
